pub mod BearerLemmas
pub mod RowSteps
pub mod AtBearer
