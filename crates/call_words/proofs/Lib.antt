pub mod Found
pub mod Listed
pub mod NumberWords
pub mod Refused
