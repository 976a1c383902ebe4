pub mod Tally
pub mod Changes
pub mod Stands
pub mod Steps
pub mod Counted
pub mod Places
pub mod Inside
