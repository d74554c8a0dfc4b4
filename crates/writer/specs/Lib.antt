pub mod Table
pub mod Layout
