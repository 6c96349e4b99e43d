pub mod ChangeRows
pub mod PartedRows
pub mod PlaceSpans
pub mod RulesFound
pub mod StopChanges
pub mod Ways
