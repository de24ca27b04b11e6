pub mod Sorted
pub mod Runs
pub mod Dues
pub mod Ticks
pub mod Told
