pub mod Labels
pub mod Tied
