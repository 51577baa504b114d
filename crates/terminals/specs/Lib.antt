pub mod Meaning
pub mod Rules
pub mod Frames
pub mod Exchanges
