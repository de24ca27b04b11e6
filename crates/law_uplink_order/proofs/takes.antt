pub mod Takes
pub mod Relays
pub mod Handing
pub mod Ends
