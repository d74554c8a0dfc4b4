pub mod KeptLawful
