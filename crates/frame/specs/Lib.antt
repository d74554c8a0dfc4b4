pub mod Limits
pub mod Faults
pub mod Kinds
pub mod Fields
pub mod Check
pub mod Messages
pub mod Bytes
pub mod Lawful
