pub mod MostMemory
