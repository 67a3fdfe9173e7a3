pub mod Parts
pub mod Checks
pub mod Sessions
pub mod Judging
