pub mod GlobLemmas
pub mod ShownLemmas
pub mod SumLemmas
pub mod QuotaLemmas
pub mod PassLemmas
pub mod LengthLemmas
