pub mod Holders
pub mod Waits
pub mod Takes
