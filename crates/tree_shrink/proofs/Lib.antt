pub mod RowLemmas
pub mod RunLemmas
pub mod LevelLemmas
pub mod JoinLemmas
pub mod RootLemmas
