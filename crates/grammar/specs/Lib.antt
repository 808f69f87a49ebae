pub mod Move
pub mod Parsed
pub mod Leaves
pub mod Tree
pub mod TreeLaws
pub mod Grammar
