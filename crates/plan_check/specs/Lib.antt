pub mod FleetRules
pub mod FirstFaults
pub mod Tallies
pub mod LaterRules
pub mod LargeFaults
