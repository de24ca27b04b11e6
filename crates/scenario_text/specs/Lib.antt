pub mod Grammar
pub mod Texts
pub mod Print
pub mod script_words
