-- The laws of the check without counts, by theme.
pub mod Checks
