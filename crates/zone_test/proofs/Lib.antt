pub mod AddedNumbers
pub mod KeptEdges
pub mod RingEdges
pub mod RisingBounds
pub mod ServedPlaces
pub mod ServedStops
