pub mod Undo
pub mod Journal
pub mod Laws
pub mod Values
pub mod Steps
pub mod Reading
