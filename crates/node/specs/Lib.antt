pub mod Plans
pub mod Received
pub mod Conditions
pub mod Rules
pub mod LawfulPlans
pub mod Applying
