pub mod Appending
pub mod Turns
