pub mod Line
pub mod Spelling
pub mod Leaf
pub mod Flat
pub mod inner
