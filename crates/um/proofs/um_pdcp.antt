mod OutLemmas
pub mod StoredLemmas
mod UmLemmas
