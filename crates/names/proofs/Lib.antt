pub mod Laws
pub mod Partners
pub mod LayoutLaws
pub mod Longest
pub mod Fits
