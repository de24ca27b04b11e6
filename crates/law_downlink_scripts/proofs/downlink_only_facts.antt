pub mod Views
pub mod Keys
pub mod Ends
pub mod Kept
pub mod Lists
pub mod Moves
pub mod Puts
pub mod Does
