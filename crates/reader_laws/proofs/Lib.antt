pub mod Lawful
pub mod Pieces
pub mod Reading
pub mod Calls
