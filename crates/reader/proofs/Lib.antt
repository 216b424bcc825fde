mod Calls
mod Rows
mod Depth
mod Names
mod Mirror
mod Here
pub mod Reading
