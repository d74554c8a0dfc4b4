pub mod Proposing
pub mod Settling
pub mod Working
