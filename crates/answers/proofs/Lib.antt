pub mod Counting
pub mod Faults
pub mod Declaring
pub mod Answering
pub mod Keeping
mod Limits
pub mod Promising
