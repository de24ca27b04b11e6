pub mod ReadLines
pub mod Solid
pub mod TextLines
