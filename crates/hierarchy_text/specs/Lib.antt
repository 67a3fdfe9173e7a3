pub mod Names
pub mod Sheets
pub mod Judging
