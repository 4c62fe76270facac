pub mod MemoryLemmas
pub mod HeadLemmas
