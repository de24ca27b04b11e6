pub mod Nothing
pub mod Through
pub mod Written
