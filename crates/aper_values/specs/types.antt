pub mod Types
pub mod Forms
