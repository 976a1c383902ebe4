pub mod Good
pub mod Risen
pub mod SameForms
pub mod Places
pub mod LineWords
pub mod OutOfRange
pub mod Possibles
