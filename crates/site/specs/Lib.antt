pub mod Each
pub mod Sites
pub mod Placing
pub mod Laws
pub mod site_tables
