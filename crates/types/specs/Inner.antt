pub mod Order
pub mod Numbers
