pub mod Independent
mod ColumnPast
mod Past
mod MasterColumns
pub mod PriceRises
pub mod Final
pub mod Alike
mod Dependent
pub mod ListedBases
pub mod Optimum
pub mod WholePrices
