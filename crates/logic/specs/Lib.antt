pub mod Gates
pub mod Comparing
