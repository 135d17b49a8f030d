pub mod Held
pub mod Search
