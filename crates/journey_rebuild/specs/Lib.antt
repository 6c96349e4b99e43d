pub mod Answers
pub mod PrintableParts
pub mod Rounds
