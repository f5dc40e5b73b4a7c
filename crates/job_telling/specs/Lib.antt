pub mod Words
pub mod ToldTask
