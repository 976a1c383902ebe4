pub mod WalkTexts
pub mod Texts
pub mod Answers
pub mod Calls
