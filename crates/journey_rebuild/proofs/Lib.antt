mod FoundSearch
mod Orders
pub mod PrintedParts
mod RoundLabels
mod SearchAnswers
