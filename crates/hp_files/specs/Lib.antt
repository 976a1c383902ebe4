pub mod Numbers
pub mod StatesFile
pub mod Writes
pub mod WritesByJournal
