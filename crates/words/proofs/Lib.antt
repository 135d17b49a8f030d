pub mod Bits
pub mod Variables
