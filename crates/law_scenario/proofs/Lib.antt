pub mod LineLaws
pub mod Wrong
