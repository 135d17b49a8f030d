pub mod Items
pub mod Pages
pub mod Told
