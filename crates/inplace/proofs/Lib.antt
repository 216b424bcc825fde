pub mod Comments
pub mod Letters
pub mod Steps
pub mod Unique
