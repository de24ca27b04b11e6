pub mod Blank
pub mod Steps
pub mod Gathering
pub mod Given
