pub mod Repeated
pub mod Inner
