pub mod NameLaws
pub mod Unique
