pub mod Minimize
pub mod Posed
pub mod Rises
