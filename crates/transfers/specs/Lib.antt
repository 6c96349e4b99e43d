pub mod ChangeOrder
pub mod Spans
