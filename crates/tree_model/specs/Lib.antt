pub mod Tree
pub mod Held
pub mod Whole
pub mod Database
pub mod Need
pub mod Walk
pub mod Laws
