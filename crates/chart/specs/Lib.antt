pub mod Arrows
pub mod Events
pub mod Decisions
