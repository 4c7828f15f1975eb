pub mod Promises
pub mod Whole
