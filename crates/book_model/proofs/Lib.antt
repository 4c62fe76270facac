pub mod OneLemmas
pub mod SumLemmas
pub mod CountLemmas
pub mod StayLemmas
pub mod SpellLemmas
pub mod RangeLemmas
pub mod SizeLemmas
pub mod ForeignLemmas
