pub mod Weighing
pub mod Marking
