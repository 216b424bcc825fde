pub mod Hashed
pub mod Inner
