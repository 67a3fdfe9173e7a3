pub mod Listings
pub mod Reading
pub mod Rows
pub mod Mentioned
pub mod Held
