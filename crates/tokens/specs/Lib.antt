pub mod Numbers
pub mod Words
pub mod Kinds
pub mod Scanning
