pub mod Falls
pub mod Accepted
pub mod Denominators
pub mod Curves
pub mod Steps
pub mod Cut
pub mod Facts
