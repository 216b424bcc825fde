pub mod Lists
pub mod Plan
pub mod Inner
