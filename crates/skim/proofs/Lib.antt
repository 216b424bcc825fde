pub mod Laws
pub mod Rows
mod Pieces
mod Ends
pub mod Cases
