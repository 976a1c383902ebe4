pub mod Prefixes
pub mod Stories
pub mod Tables
pub mod Holders
pub mod Counting
pub mod Keeps
pub mod Passing
