pub mod Belows
pub mod Mapping
pub mod Dropped
