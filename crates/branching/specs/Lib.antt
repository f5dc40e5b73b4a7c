pub mod Nodes
pub mod Walk
pub mod SearchTree
pub mod Shape
pub mod TreeCode
pub mod Work
pub mod Stored
