pub mod Asides
pub mod Story
pub mod Pass
pub mod Views
pub mod Turn
pub mod Passes
