pub mod Costs
pub mod Instances
pub mod Plans
pub mod PlanFiles
pub mod Hearing
