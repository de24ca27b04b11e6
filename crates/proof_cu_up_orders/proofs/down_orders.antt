pub mod Models
pub mod Items
pub mod Control
pub mod Beside
