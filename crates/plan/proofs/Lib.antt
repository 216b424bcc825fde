mod Hits
pub mod Texts
mod Gathering
pub mod Passing
mod Counting
pub mod Room
pub mod Tests
pub mod Planning
