mod JournalLaws
mod RackLaws
mod ControlLines
mod ControlledRuns
mod Scripts
mod Parts
mod Accepting
pub mod CountText
