pub mod Tame
pub mod Content
pub mod Steps
pub mod Laws
pub mod Commit
