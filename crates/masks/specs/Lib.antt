pub mod Bits
pub mod Masks
pub mod Promise
pub mod Value
pub mod ValueLaws
pub mod Worked
