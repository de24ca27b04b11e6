pub mod Back
pub mod BackStrings
pub mod BackForms
