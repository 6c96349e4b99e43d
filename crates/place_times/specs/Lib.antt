pub mod Fetches
pub mod Pairs
pub mod Found
pub mod Places
pub mod Levels
pub mod Loads
