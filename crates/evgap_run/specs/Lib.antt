pub mod Heard
pub mod Report
pub mod ProofFile
pub mod CheckAnswer
pub mod PlanAnswer
pub mod Judged
pub mod Run
