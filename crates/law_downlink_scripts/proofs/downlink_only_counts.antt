pub mod After
pub mod Lists
pub mod Places
pub mod Next
