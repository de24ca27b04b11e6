-- Where a bearer's models begin in a run: with the first context, which has its downlink by one switch.
use Rattle.std.specs.Prelude.{◌≡◌, ℕ, [], ◌∷◌}
use Rattle.gnb_types.specs.declared.names.SnBits.{SnBits}
use Rattle.gnb_types.specs.declared.names.UeId.{UeId}
use Rattle.gnb_types.specs.declared.names.BearerId.{BearerId}
use Rattle.unit_defs.specs.CuUpRecords.{DownlinkTunnel}
use Rattle.run_defs.specs.Runs.{Reading}
use Rattle.law_downlink_order.specs.chain.Words as down_words
use Rattle.law_uplink_order.specs.uplink.Words as up_words
use Rattle.bearer_defs.specs.chain_defs.Models as down_models
use Rattle.bearer_defs.specs.chain_defs.Orders as down
use Rattle.bearer_defs.specs.uplink_defs.Models as up_models
use Rattle.bearer_defs.specs.uplink_defs.Orders as up
use Rattle.proof_bearer_refinement.specs.run_bearers.Bearers.{Numbering}
use Rattle.proof_bearer_refinement.specs.runs.Steps.{Point, AreOrders}

pub record AreInitial (first teid : ℕ) (d : DownlinkTunnel) (p : Point) : Type 0 where
  pub down : p.down ≡ down.run (down_models.initial first teid) (down.switches first d 0 ∷ [])
  pub up : p.up ≡ up_models.initial first teid

-- what the models did meanwhile is orders that ask what they do; and what is delivered then, down and up, is a prefix of what was offered
-- by them
pub record DeliverInOrder (reading : Reading) (n : Numbering) (ue : UeId) (bearer : BearerId) (sn : SnBits) (quota : ℕ) (p q : Point) : Type 0 where
  pub orders : AreOrders reading n ue bearer sn quota p q
  pub down : down_words.DeliversInOrder (down.offers_in orders.downs) q.down
  pub up : up_words.DeliversInOrder (up.offers_in orders.ups) q.up
