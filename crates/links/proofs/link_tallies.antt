pub mod SoundLemmas
pub mod TiedLemmas
pub mod Standing
