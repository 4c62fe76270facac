pub mod Summed
pub mod Page
pub mod Steps
pub mod Laws
