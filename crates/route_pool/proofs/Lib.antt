pub mod PutPlans
pub mod RoutePlaces
pub mod GrownPools
pub mod Alone
pub mod Known
mod Kept
