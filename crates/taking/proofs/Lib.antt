pub mod Tops
pub mod Turns
pub mod Runs
pub mod Takings
pub mod Laziness
