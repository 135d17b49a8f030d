pub mod Values
pub mod Literals
pub mod Clauses
pub mod Sets
pub mod Words
pub mod Splitting
pub mod Listing
