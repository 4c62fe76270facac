pub mod ColdLemmas
pub mod PlaceLemmas
pub mod SuperLemmas
pub mod BackLemmas
pub mod AskLemmas
pub mod AppendLemmas
pub mod RoomLemmas
