pub mod Inner
pub mod Recreated
