pub mod Forms
pub mod LineForms
pub mod Verbs
pub mod Places
pub mod Possible
pub mod Faults
