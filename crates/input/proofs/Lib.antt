pub mod Keeping
pub mod Whole
