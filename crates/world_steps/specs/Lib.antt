pub mod Gives
pub mod Asks
pub mod Moves
pub mod packets
pub mod control_messages
