pub mod Networks
pub mod Spans
pub mod Told
pub mod inside
