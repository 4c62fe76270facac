pub mod Tests
pub mod Rests
pub mod Parts
pub mod SessionLemmas
pub mod Passed
pub mod Judged
