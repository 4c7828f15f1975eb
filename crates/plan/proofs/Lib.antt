-- The laws of the table over the rows.
mod Measured
pub mod Planning
