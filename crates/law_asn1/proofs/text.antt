pub mod Taken
pub mod SizeTexts
pub mod MemberTexts
pub mod TypeTexts
pub mod RowTexts
pub mod ModuleTexts
