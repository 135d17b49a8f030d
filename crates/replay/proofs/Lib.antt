pub mod Input
pub mod Lists
