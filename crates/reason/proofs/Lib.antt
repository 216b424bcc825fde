-- What the proofs of this crate's functions lean on: laws of reasons, and what loops know at each turn.
pub mod Laws
pub mod Meaning
pub mod Cases
pub mod Unique
mod Flagging
mod Lowest
mod Looking
mod Explaining
