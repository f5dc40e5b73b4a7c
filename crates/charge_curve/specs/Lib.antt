pub mod Points
pub mod CutCurve
pub mod Faults
pub mod Multiples
pub mod Scaled
