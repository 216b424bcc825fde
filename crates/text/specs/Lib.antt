pub mod Text
pub mod Plain
pub mod Buffers
