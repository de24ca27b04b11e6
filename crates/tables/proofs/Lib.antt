mod ShelfLemmas
pub mod TableLaws
mod TableLemmas
