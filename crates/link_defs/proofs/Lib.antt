pub mod OneItem
pub mod Pdus
pub mod Shells
pub mod Written
