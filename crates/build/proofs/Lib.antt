mod Flagging
mod Rows
mod Sums
mod Written
pub mod Whole
pub mod Replying
