pub mod Write
pub mod Climb
pub mod Steps
