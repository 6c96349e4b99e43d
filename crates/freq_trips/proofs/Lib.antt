pub mod NextStarts
