pub mod Shrink
pub mod Steps
pub mod Remove
