pub mod DueSteps
