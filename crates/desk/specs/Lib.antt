pub mod Limits
pub mod Tables
pub mod Lists
pub mod Asking
pub mod LawfulTables
pub mod Opening
pub mod Ending
