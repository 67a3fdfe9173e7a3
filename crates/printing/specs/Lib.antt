pub mod Texts
pub mod Grounds
pub mod Outcomes
