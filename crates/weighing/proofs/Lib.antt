pub mod Standing
pub mod Neighbours
pub mod Within
