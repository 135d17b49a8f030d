mod Commented
pub mod Headed
mod Led
mod NoFurther
pub mod Numerals
mod Places
mod Reasons
mod Refused
mod Rising
pub mod Sound
pub mod Standing
mod Told
mod WrittenRead
