pub mod Sums
pub mod Rounding
pub mod Best
