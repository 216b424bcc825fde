-- What the proofs of this crate's functions lean on.
mod Searched
