pub mod Count
pub mod Numbers
