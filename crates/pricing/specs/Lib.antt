pub mod Better
pub mod Answers
pub mod Labels
pub mod Inside
