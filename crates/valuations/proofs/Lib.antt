pub mod Valued
pub mod Judged
