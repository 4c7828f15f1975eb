-- The laws of what is shown and written.
pub mod Laws
mod Triples
mod Showing
mod Answering
