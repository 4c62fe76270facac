pub mod Codes
pub mod Shelf
pub mod Steps
pub mod Loaded
