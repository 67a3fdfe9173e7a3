pub mod Views
pub mod Attributes
pub mod Growing
pub mod Copying
