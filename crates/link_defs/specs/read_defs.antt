pub mod Shells
pub mod Pdus
pub mod Items
