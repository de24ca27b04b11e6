pub mod FlagTurns
pub mod HeadTurns
pub mod RawTurns
pub mod Slots
