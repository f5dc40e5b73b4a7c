pub mod Pool
pub mod Placed
pub mod Kept
