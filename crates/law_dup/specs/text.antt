pub mod FirstWrong
pub mod Lines
