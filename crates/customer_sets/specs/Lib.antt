pub mod CustSet
pub mod SetBelow
pub mod Kept
pub mod Members
pub mod Restored
pub mod LargeMembers
pub mod LargeRestored
pub mod Pairs
