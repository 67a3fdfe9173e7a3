pub mod Rotations
pub mod Room
pub mod Turns
