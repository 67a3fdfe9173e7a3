pub mod Standing
pub mod Changes
pub mod Joins
pub mod Theorems
