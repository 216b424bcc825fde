pub mod Lent
pub mod Output
pub mod Inner
