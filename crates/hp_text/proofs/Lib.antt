pub mod DigitLoop
pub mod NumberLaws
pub mod Readings
pub mod SetWords
pub mod SetLoop
pub mod ListLoop
pub mod OpLaws
pub mod SubLaws
pub mod ListLaws
pub mod Pairs
pub mod SpacedWords
pub mod SetText
mod OpCases
