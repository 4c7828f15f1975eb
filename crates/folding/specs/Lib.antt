pub mod Fold
pub mod inner
