pub mod Refused
pub mod Laws
pub mod Unique
