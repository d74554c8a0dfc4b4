pub mod Limits
pub mod Refusals
pub mod Meaning
pub mod Laws
pub mod Listed
pub mod TableLaws
pub mod Deciding
pub mod Runs
