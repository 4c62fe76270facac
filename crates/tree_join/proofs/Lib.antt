pub mod RiseLemmas
pub mod LevelLemmas
pub mod PairLemmas
pub mod LeafLemmas
