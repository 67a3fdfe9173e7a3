pub mod Calling
pub mod Lines
pub mod Memory
