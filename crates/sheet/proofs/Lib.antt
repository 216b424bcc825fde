pub mod Laws
pub mod Meaning
mod Heading
mod Rowing
mod Lining
mod Tabling
pub mod Printed
pub mod Cases
