pub mod Law
pub mod Asked
pub mod RoomOf
pub mod EntryOf
