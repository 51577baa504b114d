pub mod Codes
pub mod Properties
