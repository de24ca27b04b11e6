pub mod RowLemmas
pub use Rattle.pdcp_bearers.proofs.ue_bearers as ue_bearers
