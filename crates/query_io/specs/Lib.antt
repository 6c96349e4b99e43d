pub mod AnswerText
pub mod Printable
pub mod PrintableAnswers
pub mod Lines
pub mod Word
pub mod Reads
pub mod QueryFields
pub mod QueryPlaces
