pub mod Examples
pub mod FrameExamples
pub mod ChooserExamples
pub mod NodeExamples
pub mod TableExamples
pub mod CallExamples
pub mod AllExamples
