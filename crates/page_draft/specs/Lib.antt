pub mod Slots
pub mod Draft
