pub mod Steps
pub mod Puts
pub mod Roots
pub mod Removes
