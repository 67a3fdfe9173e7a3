pub mod Reaching
pub mod Drawings
pub mod Values
pub mod Answering
pub mod Rows
