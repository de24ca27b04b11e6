pub mod ReadsLine
