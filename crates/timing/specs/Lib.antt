pub mod Ramps
pub mod Divisors
pub mod Remainders
pub mod Sums
