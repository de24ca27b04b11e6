pub mod Opens
pub mod Ticks
pub mod Placed
pub mod Shares
