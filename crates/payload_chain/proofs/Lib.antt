pub mod StateLemmas
pub mod CountLemmas
pub mod WalkLemmas
pub mod GiveLemmas
pub mod ReadLemmas
pub mod TakeLemmas
pub mod PutLemmas
pub mod LawLemmas
