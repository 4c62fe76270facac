pub mod MoveLemmas
mod CellLemmas
mod PutLemmas
mod RootLemmas
mod WholeLemmas
mod RemoveLemmas
mod AddLemmas
mod LargeLemmas
mod CleanLemmas
mod SoundLemmas
mod ChangedLemmas
mod RemoveSoundLemmas
mod RemoveChangedLemmas
mod RemoveLargeLemmas
