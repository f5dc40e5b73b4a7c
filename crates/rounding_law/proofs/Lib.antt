pub mod Floors
pub mod Times
pub mod Shape
pub mod Whole
pub mod Begin
pub mod Fastest
pub mod Only
