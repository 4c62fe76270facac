pub mod Size
pub mod Book
pub mod Pages
pub mod Laws
