pub mod wholes
pub mod reading
