pub mod Bounds
mod Examples
pub mod FieldFacts
pub mod LeftFacts
pub mod Marks
pub mod OnLiterals
pub mod Pools
pub mod TableFacts
pub mod TableReads
pub mod Texts
pub mod Trims
