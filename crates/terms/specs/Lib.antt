pub mod Kept
pub mod Terms
