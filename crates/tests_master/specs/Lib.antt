pub mod SharedRides
