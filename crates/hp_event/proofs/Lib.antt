pub mod Alike
pub mod Among
