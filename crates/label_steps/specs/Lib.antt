pub mod OneLevel
pub mod Arrivals
pub mod Leaves
pub mod Paying
pub mod Covering
