pub mod PairFacts
pub mod Texts
pub mod FoundFacts
pub mod PlaceFacts
pub mod SpanOrder
pub mod AcceptedSpans
pub mod LevelFacts
pub mod LoadFacts
