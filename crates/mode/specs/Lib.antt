pub mod Modes
pub mod Unique
