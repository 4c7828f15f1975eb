pub mod Sheets
pub mod Examples
