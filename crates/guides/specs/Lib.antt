pub mod Rows
pub mod Ranks
pub mod Counted
pub mod Laws
pub mod Examples
