pub mod Hearing
pub mod HeldLaws
pub mod WrittenNames
pub mod ViewFinds
pub mod ViewLaw
pub mod Shown
pub mod Parts
pub mod Performed
