pub mod Written
pub mod NearTexts
pub mod Reading
pub mod WrittenRanges
pub mod NearIn
pub mod VerdictText
