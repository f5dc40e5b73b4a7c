pub mod Earnings
pub mod Alone
pub mod PriceLimits
pub mod Lowered
pub mod Risen
pub mod EndProofs
pub mod NearFleets
