pub mod FormLaws
pub mod NumberLemmas
pub mod PlaceLaws
pub mod WordLemmas
