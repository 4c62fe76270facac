pub mod Pages
pub mod Freelist
pub mod Chain
pub mod Edits
pub mod Laws
