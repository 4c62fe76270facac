pub mod RootLemmas
