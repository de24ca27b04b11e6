pub mod Outside
pub mod Lines
pub mod Handing
pub mod Reading
pub mod LineReader
pub mod InMemory
pub mod Pieces
