pub mod Places
pub mod Characters
pub mod Entries
pub mod Reading
