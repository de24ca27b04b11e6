pub mod OctetLemmas
pub mod OrderLemmas
pub mod HeadLemmas
