pub mod Columns
pub mod Problems
pub mod Masters
pub mod Endings
pub mod Rising
