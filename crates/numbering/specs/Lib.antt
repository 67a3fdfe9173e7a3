pub mod Given
pub mod Frontier
pub mod Traces
pub mod Arranged
