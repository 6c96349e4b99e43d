pub mod Tallies
pub mod Timings
