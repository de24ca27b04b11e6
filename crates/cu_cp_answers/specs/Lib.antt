pub mod control_answers
