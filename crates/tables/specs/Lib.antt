pub mod Copies
pub mod Members
pub mod Moments
pub mod Lawful
