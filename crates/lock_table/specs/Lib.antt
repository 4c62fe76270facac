pub mod Take
pub mod Reached
