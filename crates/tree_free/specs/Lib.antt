pub mod Free
pub mod Steps
