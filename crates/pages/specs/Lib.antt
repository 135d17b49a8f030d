pub mod Says
pub mod Numberings
pub mod Laws
pub mod Reports
