pub mod Simple
pub mod NamedJobs
pub mod Differ
