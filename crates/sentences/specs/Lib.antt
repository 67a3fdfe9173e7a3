pub mod Statements
pub mod Outlines
