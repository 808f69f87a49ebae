pub mod Utf8
pub mod Boundary
pub mod Laws
pub mod BoundaryLaws
pub mod Worked
pub mod Unique
