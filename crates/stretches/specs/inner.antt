-- What no public promise cites.
pub mod Operands
pub mod Below
pub mod Starts
