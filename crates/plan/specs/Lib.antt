pub mod Plan
pub mod Marks
pub mod inner
