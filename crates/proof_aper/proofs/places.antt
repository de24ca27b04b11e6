pub mod Bits
pub mod Placed
pub mod Extents
pub mod Opened
pub mod PlacedNumbers
pub mod PlacedStrings
pub mod PlacedAll
