pub mod Visits
pub mod Levels
pub mod Totals
pub mod Schedules
