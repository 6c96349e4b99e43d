-- The definitions at small folders.
pub mod Dale
pub mod Times
pub mod Trip
pub mod Zones
pub mod Usual
