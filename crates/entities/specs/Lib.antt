pub mod Closest
pub mod Inner
