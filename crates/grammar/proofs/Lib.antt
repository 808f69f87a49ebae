pub mod Levels
pub mod Shape
pub mod Worked
