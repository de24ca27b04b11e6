pub mod Projections
pub mod Steps
