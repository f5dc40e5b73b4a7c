pub mod After
pub mod Gap
pub mod Candidate
pub mod Inner
