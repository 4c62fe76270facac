pub mod Splice
pub mod Memory
pub mod Written
pub mod Change
pub mod Image
pub mod Given
pub mod Sure
pub mod Failing
