pub mod Held
pub mod ViewAnswer
pub mod Judged
pub mod Run
