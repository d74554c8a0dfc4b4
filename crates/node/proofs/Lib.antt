pub mod Options
pub mod LawfulParts
pub mod LawfulKept
