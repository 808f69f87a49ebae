pub mod Reread
pub mod Same
pub mod Plain
