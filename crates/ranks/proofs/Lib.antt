pub mod Halves
mod Before
mod Indexing
mod Counting
pub mod Ranked
