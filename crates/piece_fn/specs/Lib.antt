pub mod PieceFn
pub mod Cuts
pub mod Reach
