pub mod Reached
pub mod Asked
pub mod SiblingsOff
pub mod Playing
pub mod Existence
pub mod Hooks
pub mod Ended
