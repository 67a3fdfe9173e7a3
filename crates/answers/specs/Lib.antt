pub mod Refusals
pub mod Answers
pub mod Runs
pub mod Theorems
