-- The laws of the definitions in specs/, by theme.
pub mod Bytes
pub mod Spans
pub mod Heads
pub mod Tags
