pub mod FourBytes
pub mod Slices
