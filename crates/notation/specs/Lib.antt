pub mod Notation
pub mod Classes
pub mod Readings
pub mod Known
pub mod Views
pub mod Reads
