mod Lent
pub mod Meaning
pub mod Records
pub mod Printed
pub mod Cases
