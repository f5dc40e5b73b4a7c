pub mod GoesOn
pub mod Sums
pub mod RouteTimes
pub mod RoutesInTurn
