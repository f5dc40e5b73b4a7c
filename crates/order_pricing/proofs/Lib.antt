pub mod OrderRoutes
pub mod Remembered
