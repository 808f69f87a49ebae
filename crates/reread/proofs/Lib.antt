pub mod Composed
pub mod Fixed
pub mod Parted
pub mod Plusses
pub mod Proved
pub mod Settle
pub mod Strictly
