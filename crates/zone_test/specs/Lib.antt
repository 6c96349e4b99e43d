pub mod Served
pub mod Slabs
