pub mod Steps
pub mod Tops
