pub mod Playing
pub mod Ending
pub mod Saying
pub mod Telling
pub mod Told
pub mod Input
pub mod Examples
