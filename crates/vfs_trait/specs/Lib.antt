pub mod Log
pub mod State
pub mod Calls
pub mod Follows
pub mod Free
pub mod Laws
