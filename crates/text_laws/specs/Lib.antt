pub mod Writing
pub mod Standing
pub mod Refusing
pub mod Laws
pub mod Examples
pub mod Telling
