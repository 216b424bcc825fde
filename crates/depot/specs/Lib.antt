pub mod Depot
pub mod Plain
pub mod Inner
