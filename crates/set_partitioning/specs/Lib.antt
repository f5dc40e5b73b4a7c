pub mod Partitions
pub mod Prices
pub mod FirstCustomers
