pub mod Digits
pub mod Names
pub mod NumberLines
pub mod Places
pub mod Lines
pub mod Texts
