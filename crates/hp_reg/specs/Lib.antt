pub mod Progress
pub mod Concerned
pub mod Known
pub mod Asked
pub mod After
pub mod CallsLeft
pub mod ByTable
