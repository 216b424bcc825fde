pub mod Laws
mod Lending
mod Tabled
