pub mod ReplySteps
pub mod RowSteps
pub mod SetUpSteps
pub mod TickSteps
