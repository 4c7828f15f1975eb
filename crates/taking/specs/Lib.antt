pub mod Taking
pub mod Laziness
pub mod inner
