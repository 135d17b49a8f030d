pub mod States
pub mod Calls
pub mod Pushing
pub mod Entering
pub mod Stepping
pub mod Running
pub mod Pages
pub mod Worked
