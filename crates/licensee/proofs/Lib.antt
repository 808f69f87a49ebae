pub mod BodyLaws
pub mod Faults
pub mod FileLaws
pub mod TermsLaws
pub mod Unique
pub mod Worked
