pub mod Pairs
pub mod Walks
