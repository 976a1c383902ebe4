pub mod Reading
pub mod OptionLaws
pub mod ClapRules
pub mod ClapSteps
pub mod ClapWalk
pub mod ClapReads
pub mod ClapTakes
mod Accepting
mod Parts
