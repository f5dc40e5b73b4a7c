pub mod OneLevel
pub mod Vehicles
pub mod Arrivals
pub mod ChargingTimes
pub mod Stops
pub mod Pays
pub mod PluggedValues
