pub mod Options
pub mod Counting
pub mod Controlling
pub mod Commands
pub mod TextsFound
