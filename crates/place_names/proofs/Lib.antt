mod Values
pub mod Unbroken
