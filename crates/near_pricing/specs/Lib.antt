pub mod Answers
pub mod Questions
pub mod Inside
pub mod Better
pub mod Placed
pub mod Labels
