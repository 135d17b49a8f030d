pub mod Lists
pub mod Playing
pub mod Worked
