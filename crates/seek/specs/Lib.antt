pub mod Source
pub mod First
pub mod inner
