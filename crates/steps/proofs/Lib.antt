pub mod Rows
pub mod Flips
pub mod Clashing
pub mod Candidates
pub mod Written
pub mod Closing
