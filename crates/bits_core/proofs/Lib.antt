pub mod BitLemmas
mod ReaderLemmas
mod WriterLemmas
