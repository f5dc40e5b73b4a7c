pub mod Divisors
pub mod Division
