-- The definitions, in the order to read them.
pub mod Majorities
pub mod Witnesses
