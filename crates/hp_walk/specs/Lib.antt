pub mod Keys
pub mod Cursor
pub mod Asked
pub mod Left
pub mod Faulted
pub mod After
pub mod Took
