pub mod Labels
pub mod ThreeCustomers
pub mod Shortcut
pub mod DepotStation
pub mod OutOfReach
