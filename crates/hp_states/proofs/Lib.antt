pub mod Basics
mod Looking
pub mod Padded
pub mod RuleCounts
pub mod CpuSetBits
pub mod CpuSetLowest
