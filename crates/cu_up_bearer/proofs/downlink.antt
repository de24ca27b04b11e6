pub mod Sequels
pub mod Numberings
pub mod Resends
