pub mod Passing
pub mod ItemsHeld
pub mod TypesHeld
pub mod RowsHeld
pub mod ModuleHeld
pub mod StepsHeld
pub mod ReferHeld
