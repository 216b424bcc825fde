-- What the functions of this crate ask of and promise each other; no public contract cites it.
pub mod Bits
pub mod Tree
pub mod Calls
