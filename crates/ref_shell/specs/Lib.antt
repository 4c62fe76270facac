pub mod Shelf
pub mod Machine
pub mod Part
pub mod Session
