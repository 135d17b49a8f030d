pub mod Resolving
pub mod Lines
pub mod Given
pub mod ReadingOff
pub mod Same
