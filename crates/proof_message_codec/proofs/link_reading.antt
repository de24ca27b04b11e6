pub mod Pdus
pub mod Shells
pub mod Items
pub mod Lawful
