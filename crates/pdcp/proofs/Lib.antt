pub mod Bitmaps
pub mod Bits
pub mod NearLaws
pub mod PduLaws
