pub mod Table
pub mod Promises
pub mod Plain
pub mod Printed
pub mod Inner
