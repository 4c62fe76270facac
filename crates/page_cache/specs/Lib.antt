pub mod Pages
pub mod CacheFields
