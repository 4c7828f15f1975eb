pub mod Decimals
pub mod Placing
pub mod Printed
pub mod Written
