pub mod Orders
pub mod Pricing
pub mod PricerView
