pub mod Query
pub mod Plain
pub mod Inner
