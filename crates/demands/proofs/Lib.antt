pub mod Replying
pub mod Leaving
mod Searching
pub mod Calls
pub mod Unique
pub mod Papers
pub mod Types
