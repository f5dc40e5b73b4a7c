pub mod Space
pub mod Steps
pub mod Laws
pub mod Tree
pub mod Answers
