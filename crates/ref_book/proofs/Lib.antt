pub mod Maps
pub mod Loaded
pub mod Unnamed
pub mod Named
pub mod Sizes
pub mod Becomes
pub mod Needs
