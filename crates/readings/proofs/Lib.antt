pub mod Whole
pub mod Arrays
