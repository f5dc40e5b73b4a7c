pub mod Lawful
