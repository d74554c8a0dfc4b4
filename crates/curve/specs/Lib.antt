pub mod Curve
pub mod CurveLaws
