pub mod Leaf
pub mod Join
pub mod Steps
