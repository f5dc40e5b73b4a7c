pub mod FixedReading
pub mod Spelled
