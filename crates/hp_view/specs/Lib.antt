pub mod Options
pub mod TextsFound
pub mod Chosen
pub mod Main
pub mod Stops
pub mod Calls
