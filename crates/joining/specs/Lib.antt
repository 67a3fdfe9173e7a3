pub mod Workspaces
pub mod Uniting
