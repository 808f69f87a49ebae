pub mod OverlayLaws
pub mod Pointwise
pub mod Ranges
