pub mod Open
pub mod Untold
pub mod Counted
