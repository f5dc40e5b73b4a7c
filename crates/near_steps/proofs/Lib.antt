pub mod Bounds
pub mod Nears
