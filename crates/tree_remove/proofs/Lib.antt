pub mod MoveLemmas
pub mod ShrinkLemmas
pub mod LeafLemmas
pub mod SettleLemmas
pub mod RemoveLemmas
