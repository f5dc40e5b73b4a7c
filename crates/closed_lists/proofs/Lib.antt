pub mod Margins
pub mod CoveredStates
pub mod LabelSteps
pub mod StationSteps
pub mod HomeSteps
pub mod Faults
pub mod RoutePlaces
pub mod StartState
