pub mod Limits
pub mod Board
pub mod Instance
pub mod Kept
