pub mod Borders
pub mod Turns
pub mod Events
pub mod Walks
pub mod Lawful
