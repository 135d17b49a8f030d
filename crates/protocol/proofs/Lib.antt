pub mod Refusals
pub mod Apart
pub mod Worked
pub mod Numerals
pub mod Places
pub mod Saying
pub mod Texts
pub mod Tries
