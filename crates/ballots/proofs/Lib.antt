pub mod Safety
pub mod Members
pub mod KeptLaws
