pub mod Known
pub mod Plain
pub mod Promises
pub mod Inner
