pub mod Quotients
pub mod Operations
pub mod Switches
pub mod Tables
