pub mod EntryLists
pub mod Looks
pub mod Options
