pub mod ClientEvents
pub mod Comes
pub mod HeadSteps
pub mod Rooms
