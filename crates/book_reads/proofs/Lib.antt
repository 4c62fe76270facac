pub mod ReadLemmas
pub mod MapLemmas
pub mod RowLemmas
pub mod SchemaLemmas
pub mod NameLemmas
pub mod EntryLemmas
pub mod TableLemmas
