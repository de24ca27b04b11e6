pub mod Items
pub mod Control
pub mod Beside
