pub mod Names
pub mod KindFiles
pub mod KindReading
pub mod CheckMixedAnswer
pub mod Judged
pub mod MixedAnswer
