pub mod Contracts
pub mod Tops
