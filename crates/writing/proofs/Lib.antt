pub mod Joining
pub mod Apart
