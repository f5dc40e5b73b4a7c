pub mod Written
pub mod MixedTexts
pub mod Reading
pub mod WrittenRanges
pub mod MixedIn
pub mod VerdictText
