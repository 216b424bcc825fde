-- What the proofs of this crate's functions lean on: laws of the engine and of lists, what loops know at each turn, and what functions give in the end.
pub mod Laws
mod Rows
mod Values
mod Taking
mod Walking
mod Rising
mod Judging
mod Advancing
pub mod Blanks
mod Running
mod Listing
mod Passing
mod Searching
