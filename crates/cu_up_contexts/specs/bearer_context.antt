pub mod Contexts
pub mod Bearers
pub mod Orders
pub mod Items
pub mod Answers
