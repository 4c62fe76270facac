pub mod Brackets
pub mod Near
pub mod Pages
pub mod Passed
pub mod Seen
