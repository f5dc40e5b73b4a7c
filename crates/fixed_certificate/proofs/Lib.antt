mod ProofRanges
mod ClosedStates
mod Quick
