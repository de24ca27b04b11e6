pub mod Receivers
pub mod Senders
pub mod inside
