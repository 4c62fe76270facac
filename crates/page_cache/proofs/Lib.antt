pub mod EntryLemmas
pub mod PagesLemmas
pub mod CacheLemmas
