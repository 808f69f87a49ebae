pub mod Offers
pub mod Packed
pub mod Satisfies
pub mod Terms
