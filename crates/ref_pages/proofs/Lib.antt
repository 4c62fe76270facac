pub mod DifferentLemmas
pub mod WordLemmas
pub mod CourseLemmas
pub mod FreeLemmas
