pub mod MayLemmas
