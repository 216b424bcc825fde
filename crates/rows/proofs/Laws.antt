-- The laws of this crate's definitions, and of lists.
pub mod Lists
pub mod Output
