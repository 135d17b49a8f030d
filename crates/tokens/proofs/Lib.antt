pub mod Gaps
pub mod Lines
