pub mod FleetNetwork
pub mod PlanFile
pub mod Heard
