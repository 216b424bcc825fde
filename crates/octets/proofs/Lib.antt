pub mod Laws
mod Table
pub mod Running
