pub mod Changes
pub mod RunLaws
pub mod Start
