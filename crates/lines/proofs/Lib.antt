pub mod Resolution
pub mod Paired
pub mod Found
pub mod Numbers
pub mod Opposed
pub mod Gathering
pub mod Becoming
pub mod Stated
