pub mod Meeting
pub mod Closing
pub mod Taking
pub mod Changing
pub mod Steps
pub mod Turns
