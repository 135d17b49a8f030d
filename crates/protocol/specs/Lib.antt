pub mod Commands
pub mod Reading
pub mod Said
pub mod Telling
pub mod Worked
