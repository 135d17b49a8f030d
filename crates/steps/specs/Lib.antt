pub mod Rows
pub mod Flips
pub mod Writing
pub mod Moves
pub mod Laws
pub mod Examples
