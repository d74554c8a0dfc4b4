pub mod Grounds
pub mod Starts
