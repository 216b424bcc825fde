pub mod Reasons
pub mod Plain
pub mod Promises
pub mod Inner
