pub mod string_turns
pub mod resuming
pub mod aper_resuming
pub mod steps
pub mod decoder
