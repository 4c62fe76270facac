pub mod Removes
pub mod Keeps
pub mod Large
