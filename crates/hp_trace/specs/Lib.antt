pub mod Pieces
pub mod Readers
pub mod Payload
pub mod Said
pub mod Nest
pub mod Judged
pub mod Failed
