pub mod ChunkLemmas
pub mod PartLemmas
pub mod SoundLemmas
pub mod StackLemmas
pub mod LengthLemmas
