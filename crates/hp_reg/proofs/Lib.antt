pub mod Rising
pub mod Lowest
pub mod Steps
pub mod Callers
