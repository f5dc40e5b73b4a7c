pub mod Products
pub mod Sizes
pub mod Divided
pub mod Reduced
pub mod Quotients
pub mod CombinedRows
pub mod Pivots
pub mod Tableaus
pub mod Facts
pub mod TableFacts
pub mod FreshFacts
pub mod Added
pub mod Independence
pub mod PastCaps
pub mod Combinations
pub mod SameSolutions
pub mod Bases
pub mod Expansion
pub mod Factors
pub mod Units
pub mod BasisShares
mod Dependence
mod Exchange
mod FollowingHelpers
mod HelperTables
mod Moves
mod Reached
mod ShareWeights
mod StartSteps
mod Within
