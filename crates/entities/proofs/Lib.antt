pub mod Laws
mod Codes
mod Walking
