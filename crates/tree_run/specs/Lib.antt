pub mod Node
pub mod Run
pub mod Edit
pub mod Laws
