pub mod ToEnd
pub mod FixedReaders
pub mod FixedLaws
pub mod LineLoops
