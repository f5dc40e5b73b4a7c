pub mod StationNodes
pub mod ChargingTimes
pub mod Grid
pub mod TableSizes
pub mod WayHome
pub mod Walked
pub mod AnyFraction
