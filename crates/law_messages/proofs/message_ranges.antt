pub mod Bounds
pub mod Goods
pub mod Bodies
pub mod InRangeF1
pub mod InRangeE1
pub mod InRangeXn
pub mod InRangeCore
