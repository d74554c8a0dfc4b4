-- The definitions, in the order to read them.
pub mod State
pub mod Conditions
pub mod Effects
pub mod Changes
pub mod Moves
pub mod Law
pub mod Line
