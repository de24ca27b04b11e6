pub mod Lying
pub mod Paths
pub mod TypesStand
pub mod RowsStand
pub mod ModuleStands
pub mod StepsStand
pub mod DepthHeld
