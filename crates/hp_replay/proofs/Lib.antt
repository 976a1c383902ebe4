pub mod NumberLaws
pub mod LineLaws
pub mod ReaderLaws
pub mod OpWords
pub mod VersionLaws
pub mod EventTakes
pub mod EventAgain
pub mod SpelledLaws
pub mod HeadFields
pub mod InputLaws
pub mod AbsentLaws
pub mod HeadLaws
pub mod TextLines
pub mod Passes
pub mod Follows
pub mod TextPasses
pub mod Reached
pub mod CanPass
pub mod KindLaws
pub mod VerdictLaws
pub mod JudgeLaws
pub mod TextLaws
mod LineExamples
mod InputExamples
pub mod CodeForms
mod WordForms
mod ShortNumbers
mod Rows
mod FirstWordLaws
mod LineForms
mod ReadingLaws
mod HeadReading
mod EventReading
mod SummaryReading
