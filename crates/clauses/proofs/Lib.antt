pub mod Tests
pub mod Listed
pub mod Words
pub mod Literals
pub mod Splits
pub mod Contrary
