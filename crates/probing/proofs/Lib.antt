pub mod Laws
pub mod Fill
pub mod Walk
pub mod Cases
