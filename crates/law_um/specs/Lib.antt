pub mod Sound
pub mod Histories
pub mod run
pub mod text
