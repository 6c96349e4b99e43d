pub mod Departures
pub mod Ends
pub mod Narrowing
pub mod Openings
