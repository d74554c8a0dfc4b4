pub mod Looking
pub mod Turns
pub mod Beginnings
