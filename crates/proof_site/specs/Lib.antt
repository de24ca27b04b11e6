pub mod lone_units
pub mod leaves
