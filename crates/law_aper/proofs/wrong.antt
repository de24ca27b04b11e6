pub mod LayoutsLoose
