pub mod Print
pub mod inner
