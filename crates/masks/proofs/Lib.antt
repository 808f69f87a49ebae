mod WorkedLaws
pub mod Kept
pub mod Least
pub mod MasksLaws
pub mod Resume
pub mod Unique
