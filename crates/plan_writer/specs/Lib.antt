pub mod CheckText
pub mod FleetText
pub mod MakeText
