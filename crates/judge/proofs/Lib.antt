pub mod Turning
pub mod Numbers
pub mod Taking
pub mod Walk
pub mod Closing
pub mod Meaning
