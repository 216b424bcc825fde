pub mod Next
pub mod Walk
pub mod Inner
