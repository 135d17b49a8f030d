pub mod Bits
pub mod Laws
