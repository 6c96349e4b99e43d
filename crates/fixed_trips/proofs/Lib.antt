pub mod Legs
pub mod PatternTrips
pub mod PatternNumbers
pub mod PatternRides
pub mod PatternTables
pub mod RunRides
