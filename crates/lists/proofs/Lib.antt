pub mod Laying
pub mod Fillings
