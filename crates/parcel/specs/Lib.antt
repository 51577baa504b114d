pub mod Verdicts
pub mod Contents
pub mod Words
pub mod Lines
pub mod Parcel
pub mod Trial
pub mod Bodies
