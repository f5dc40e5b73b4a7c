pub mod MoreLabels
pub mod SearchTurns
mod FullBattery
mod ChargeTimes
mod ChargedStates
mod FirstLevel
mod StationSteps
mod TakenLabels
mod RoutePlans
pub mod Points
pub mod WaysBack
mod LevelPlans
mod SearchLoops
mod LiveStates
mod Within
mod RestRate
mod RestLaw
mod RestTable
mod LateStops
mod WayLaw
mod WayTables
