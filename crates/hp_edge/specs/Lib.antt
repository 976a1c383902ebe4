pub mod Causes
pub mod Reading
pub mod Refusals
pub mod Scripts
pub mod Writing
