pub mod Ways
pub mod Trips
pub mod Stations
pub mod Homes
pub mod Steps
