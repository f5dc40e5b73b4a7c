pub mod Command
pub mod Matches
pub mod Names
pub mod Numbers
