-- Chains of questions, and what calls have in common
pub mod Chains
pub mod Judged
pub mod Asked
pub mod Serving
pub mod Nodes
-- The calls
pub mod Ending
pub mod Opening
pub mod Starting
pub mod Settling
pub mod Offering
pub mod Delivering
-- The law
pub mod StopsRightly
