pub mod Plans
pub mod WayHomePlans
pub mod StationList
pub mod LeavingValues
pub mod Rests
