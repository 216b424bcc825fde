pub mod Laws
pub mod Right
pub mod Forgets
pub mod Stands
pub mod Aligned
pub mod Mentions
pub mod Scan
pub mod Cases
