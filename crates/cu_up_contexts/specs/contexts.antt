pub use Rattle.cu_up_contexts.specs.bearer_context as bearer_context
pub mod Tables
pub mod Rows
pub mod Placing
pub mod Comings
