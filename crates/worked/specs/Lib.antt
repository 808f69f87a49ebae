pub mod Worked
pub mod Texts
pub mod Sets
