pub mod Fields
pub mod Left
pub mod Parts
pub mod Records
pub mod Refusals
