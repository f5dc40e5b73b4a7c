pub mod GeneratorLemmas
pub mod MadeLemmas
mod Along
mod Contents
mod Denominator
mod Early
mod KeysAndKinds
pub mod Means
