pub mod Sizes
pub mod Spans
pub mod Joined
mod Steps
mod Inert
pub mod Cells
