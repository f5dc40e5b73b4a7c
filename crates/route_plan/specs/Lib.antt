pub mod Limits
pub mod FirstPlaces
pub mod RouteWords
pub mod RouteRules
pub mod Walking
pub mod PlanTexts
pub mod PlanReading
