pub mod Outcomes
pub mod OwnCosts
pub mod Inner
