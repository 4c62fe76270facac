pub mod WriteLemmas
pub mod ReadLemmas
pub mod ValueLemmas
pub mod CommandLemmas
pub mod LineLemmas
pub mod FeedLemmas
