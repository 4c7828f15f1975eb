pub mod Kinds
pub mod Pattern
pub mod Rows
pub mod Automaton
pub mod Answer
pub mod Reading
pub mod inner
