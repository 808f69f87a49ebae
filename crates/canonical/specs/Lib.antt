pub mod Canonical
pub mod Turn
pub mod PutLaws
pub mod StepLaws
pub mod Bound
pub mod Drafting
pub mod AnswerLaws
pub mod Unique
