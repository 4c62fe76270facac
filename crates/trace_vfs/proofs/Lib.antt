pub mod Lifts
pub mod NameLemmas
