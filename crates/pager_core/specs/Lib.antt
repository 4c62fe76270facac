pub mod Seen
pub mod Locks
pub mod File
pub mod Commit
pub mod Leave
pub mod Open
pub mod Read
