pub mod Numerals
pub mod Scans
pub mod Texts
pub mod Readers
pub mod Numbers
pub mod Lines
