-- The laws of reasons, by theme.
pub mod Reasons
pub mod Counts
pub mod Own
pub mod InNumbers
