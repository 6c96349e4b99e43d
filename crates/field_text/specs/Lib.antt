pub mod Escapes
pub mod Grammars
pub mod Laws
pub mod Numerals
pub mod Texts
