pub mod FixedText
pub mod Fractions
pub mod Lines
pub mod Walks
