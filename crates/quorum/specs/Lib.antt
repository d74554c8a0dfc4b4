pub mod Limits
pub mod Rules
pub mod Sets
pub mod MajorityLaws
pub mod Meeting
pub mod Weights
pub mod WeightedLaws
