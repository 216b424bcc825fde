pub mod Laws
mod Dropping
