pub mod RoomLemmas
pub mod CutLemmas
