pub mod CommitLemmas
pub mod LevelLemmas
pub mod LowerLemmas
pub mod StackLemmas
pub mod OpenLemmas
pub mod ReadLemmas
pub mod SharedLemmas
