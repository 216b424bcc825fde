-- What the functions of this crate promise each other; no public contract cites it.
pub mod Entries
pub mod Cursors
pub mod Words
pub mod Steps
pub mod Writing
pub mod Meaning
pub mod Going
pub mod Passes
