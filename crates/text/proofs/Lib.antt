pub mod Counts
pub mod Rest
pub mod Steps
pub mod Unread
