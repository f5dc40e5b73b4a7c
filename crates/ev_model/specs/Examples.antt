pub mod OneStation
pub mod TwoStations
pub mod NoStation
pub mod TwoCustomers
pub mod PluggingIn
pub mod LeastLevels
