pub mod Laying
pub mod PlacedReads
