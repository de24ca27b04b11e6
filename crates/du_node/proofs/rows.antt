pub mod SetupSteps
pub mod ContextSteps
pub mod ControlSteps
pub mod FirstBearers
pub mod AnyCodec
