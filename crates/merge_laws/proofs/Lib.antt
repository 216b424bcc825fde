pub mod Unique
pub mod Agree
pub mod Counts
mod Leaving
pub mod Calls
pub mod Interface
