pub mod Sums
pub mod Tallies
pub mod Sets
pub mod Standing
pub mod Raising
pub mod Stepping
pub mod Additions
pub mod Totals
