pub mod Sections
pub mod Crossings
pub mod Names
pub mod Rules
pub mod Plans
pub mod Words
pub mod CpuSets
