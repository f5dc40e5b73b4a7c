pub mod Command
pub mod Clocks
pub mod Forms
pub mod Words
pub mod JobValue
pub mod Usage
