pub mod Witness
pub mod inner
