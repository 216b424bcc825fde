pub mod Laws
pub mod Cases
mod Shape
mod Growing
mod Linking
mod Bits
mod Comparing
mod Walking
mod Numbering
mod Adding
mod Turning
mod Ending
