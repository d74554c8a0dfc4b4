pub mod Letters
pub mod Slots
