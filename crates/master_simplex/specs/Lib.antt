pub mod Falling
pub mod Phase
pub mod Answer
pub mod Sharing
