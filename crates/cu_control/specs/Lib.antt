pub mod Units
pub mod inside
