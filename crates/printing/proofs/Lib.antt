pub mod Flat
pub mod Hex
pub mod Bounds
pub mod Accepted
