pub mod PrintedAnswers
mod PrintedLines
pub mod PrintedRides
pub mod NamedPlaces
pub mod QueryMoments
pub mod QueryRecords
pub mod EscapedFronts
pub mod FirstPlaces
