pub mod script_word
pub mod command_um
pub mod command_dup
