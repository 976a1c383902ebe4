pub mod Commands
pub mod WorkLines
pub mod Main
pub mod Calls
