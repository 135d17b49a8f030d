pub mod Books
pub mod Gains
pub mod Readable
