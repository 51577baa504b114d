pub mod Sound
pub mod Lines
pub mod Cycle
pub mod State
pub mod Outputs
