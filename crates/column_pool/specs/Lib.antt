pub mod Nodes
pub mod EarnersInside
pub mod Columns
pub mod Bounds
pub mod Chains
pub mod TooWide
