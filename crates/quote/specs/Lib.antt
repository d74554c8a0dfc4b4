pub mod Quote
pub mod QuoteLaws
