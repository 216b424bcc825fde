pub mod Kept
pub mod Testing
pub mod Hashing
pub mod Cases
