pub mod Listed
pub mod Different
pub mod AsPages
pub mod ChainSteps
pub mod FreeSteps
