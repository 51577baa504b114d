pub mod Bytes
pub mod Percents
