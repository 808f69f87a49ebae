pub mod Annex
pub mod Signs
pub mod Faults
