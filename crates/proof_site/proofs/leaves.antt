mod Alone
mod Steps
pub mod Leaves
pub mod Keeping
