pub mod Generator
pub mod Lists
pub mod Locations
pub mod MadeInstance
pub mod MadeContents
