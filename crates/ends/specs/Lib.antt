pub mod Benches
pub mod Places
pub mod Plants
