pub mod SetupSteps
pub mod ControlSteps
pub mod ModeSteps
pub mod BearerSteps
pub mod FitSteps
