pub mod input_lines
pub mod input_module
pub mod command_output
pub mod command_check
pub mod command_profile
