pub mod Cut
pub mod ChargeTime
pub mod Visits
pub mod Fits
