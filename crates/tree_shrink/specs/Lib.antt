pub mod Rest
pub mod Laws
pub mod Level
pub mod Join
pub mod Root
