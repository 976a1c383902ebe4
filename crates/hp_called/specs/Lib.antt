pub mod Rows
pub mod Steps
pub mod Called
pub mod Listed
