pub mod Items
pub mod Switch
pub mod Control
pub mod Rows
pub mod First
