-- What the proofs of this crate's functions lean on: the laws of the check, and what the functions give in the end.
pub mod Laws
mod Checking
