pub mod Climbing
pub mod Crossed
mod Filling
mod Grounds
mod Linking
pub mod Members
pub mod Meets
mod Options
pub mod Places
mod Settling
pub mod Taken
