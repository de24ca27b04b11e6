pub mod Says
pub mod Local
pub mod Example
