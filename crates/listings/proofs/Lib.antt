pub mod Placing
pub mod Numbers
pub mod Entries
pub mod Lengths
pub mod Links
