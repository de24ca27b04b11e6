pub mod bearer_context
pub mod contexts
