pub mod Rows
pub mod Contracts
