-- The laws of the merging engine, by theme.
pub mod Entries
pub mod Shares
pub mod Closing
pub mod Climbing
pub mod Opening
pub mod Depth
pub mod Occurrences
pub mod Cursors
pub mod Counting
pub mod Writing
pub mod Asking
pub mod Stepping
pub mod Going
