pub mod Laws
pub mod Meaning
mod Scanning
mod Writing
pub mod Written
pub mod Cases
