pub mod LevelTimes
pub mod Coverage
pub mod Steps
pub mod Later
pub mod Laws
