pub mod Machine
pub mod Running
pub mod Stepping
pub mod Stating
