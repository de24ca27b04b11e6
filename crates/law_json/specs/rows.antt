pub mod Row
pub mod Shown
pub mod Faults
