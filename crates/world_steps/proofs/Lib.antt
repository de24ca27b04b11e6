pub mod Carried
pub mod Does
pub mod Following
pub mod OnAir
pub mod Shown
pub mod Sorted
