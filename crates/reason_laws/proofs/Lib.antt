mod Replying
pub mod Calls
pub mod Listed
