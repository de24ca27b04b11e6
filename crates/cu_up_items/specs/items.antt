pub mod Items
pub mod Coming
