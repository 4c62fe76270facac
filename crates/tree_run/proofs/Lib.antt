pub mod RunLemmas
pub mod LeafLemmas
pub mod PutLemmas
pub mod EditLemmas
pub mod RootLemmas
