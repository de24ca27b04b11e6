pub mod Pairs
pub mod Spares
pub mod Statuses
pub mod FrameLaws
pub mod Spellings
