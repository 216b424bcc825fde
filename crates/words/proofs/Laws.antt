-- The laws of the definitions in specs/, by theme.
pub mod Runs
pub mod Reading
pub mod Scan
pub mod Going
pub mod Seeking
