pub mod Airs
pub mod Acks
pub mod Offers
pub mod Gets
