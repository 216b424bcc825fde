pub mod Laws
mod Classes
pub mod Reading
mod Data
mod Comments
mod References
mod Loops
mod Tags
mod Pieces
mod Sizes
pub mod Numbers
pub mod Cases
