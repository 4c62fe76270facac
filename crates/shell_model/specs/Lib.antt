pub mod State
pub mod Cases
pub mod Step
pub mod Run
