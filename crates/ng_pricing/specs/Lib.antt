pub mod Rising
pub mod NearBound
pub mod Met
pub mod Fixing
