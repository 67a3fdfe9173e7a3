pub mod Pigeonholes
pub mod Frontiers
pub mod Steps
pub mod Visiting
pub mod Complete
pub mod Tracing
pub mod Moving
