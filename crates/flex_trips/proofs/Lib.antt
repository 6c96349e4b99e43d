pub mod Legs
pub mod Timings
