pub mod Bases
pub mod Given
pub mod Noons
pub mod Running
pub mod ZoneForms
pub mod ZoneTexts
