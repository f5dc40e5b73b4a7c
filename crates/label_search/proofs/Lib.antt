pub mod Lists
pub mod Orders
mod GrownTrees
mod Homeward
mod WaysBack
mod LeavingValues
mod SearchState
mod Copies
