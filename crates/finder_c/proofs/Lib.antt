pub mod Small
pub mod Logs
pub mod Unpacking
