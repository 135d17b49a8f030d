pub mod Assignments
pub mod Agreeing
pub mod Books
pub mod Counting
pub mod Found
pub mod Breaking
pub mod ReadingOff
pub mod Bar
pub mod Holding
pub mod Facts
pub mod Critical
mod Valued
