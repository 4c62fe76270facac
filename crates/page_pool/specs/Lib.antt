pub mod Space
pub mod Pool
pub mod Memory
pub mod Steps
