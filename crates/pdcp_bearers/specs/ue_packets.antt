pub mod Bearers
pub use Rattle.pdcp_bearers.specs.ue_bearers as ue_bearers
