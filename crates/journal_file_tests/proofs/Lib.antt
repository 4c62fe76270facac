pub mod ReadyLemmas
pub mod DeviceLemmas
