pub mod RowLemmas
pub mod Unregistered
pub mod Follows
pub mod KeysListed
