pub mod rows
pub mod refusals
pub mod feeding
