mod Accepts
mod Back
mod Children
mod Completions
mod Content
mod Examples
mod Exclusive
mod Forth
mod Found
mod Innermost
mod Kept
pub mod KindFacts
mod Lengths
mod Marks
mod Nested
mod NodeExamples
pub mod Numbers
mod Places
mod Quoted
mod ReadsOn
mod Recorded
mod Rows
mod Settled
mod Steps
mod Unambiguous
mod Walks
