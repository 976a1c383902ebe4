pub mod Contents
pub mod Changes
pub mod Inside
pub mod Plans
