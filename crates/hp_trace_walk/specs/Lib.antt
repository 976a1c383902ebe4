pub mod Asks
pub mod Walks
pub mod Steps
pub mod Ends
pub mod Begins
pub mod Tables
pub mod Entries
pub mod Answered
