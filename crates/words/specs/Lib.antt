pub mod Runs
pub mod Words
pub mod Places
pub mod Reading
pub mod Scan
pub mod Stands
