pub mod Refusals
pub mod Problem
pub mod Reading
pub mod Unread
