pub mod Responses
pub mod Gathering
pub mod Theorems
