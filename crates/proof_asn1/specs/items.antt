pub mod JudgedItems
