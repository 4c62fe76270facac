pub mod Page
pub mod Written
pub mod Steps
pub mod Laws
