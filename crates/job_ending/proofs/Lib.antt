pub mod Told
pub mod Finished
