pub mod Changes
pub mod Rows
pub mod Tables
pub mod First
pub mod Names
