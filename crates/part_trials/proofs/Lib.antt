pub mod PrintedRides
