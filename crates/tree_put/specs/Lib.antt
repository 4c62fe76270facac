pub mod Way
pub mod Puts
pub mod Keeps
pub mod Large
