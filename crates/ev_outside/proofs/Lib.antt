pub mod StreamLemmas
pub mod MemoryShelfLemmas
pub mod PieceSteps
mod InterruptedCalls
pub mod SystemNames
