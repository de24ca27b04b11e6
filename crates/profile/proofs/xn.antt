mod XnForms
mod XnAlike
mod XnFound
pub mod Spellings
