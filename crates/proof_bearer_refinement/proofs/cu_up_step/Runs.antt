-- The models after what is asked are what the orders make of them.
use Rattle.std.proofs.Common.{◌≡◌, ℕ, List, [], ◌∷◌, ◌++◌, refl, sym, ◌∙◌}
use Rattle.gnb_types.specs.declared.names.SnBits.{SnBits}
use Rattle.gnb_types.specs.declared.names.UeId.{UeId}
use Rattle.gnb_types.specs.declared.names.BearerId.{BearerId}
use Rattle.unit_defs.specs.Ways.{Pdu}
use Rattle.run_defs.specs.Runs.{plain_way}
use Rattle.bearer_defs.specs.chain_defs.Models as down_models
use Rattle.bearer_defs.specs.chain_defs.Orders as down
use Rattle.bearer_defs.specs.uplink_defs.Models as up_models
use Rattle.bearer_defs.specs.uplink_defs.Orders as up
use Rattle.proof_cu_up_orders.specs.bearer_orders.Happenings.{Happening, Contexts, context_after}
use Rattle.proof_cu_up_orders.specs.bearer_orders.Down as downs
use Rattle.proof_cu_up_orders.specs.bearer_orders.Up as ups
use Rattle.proof_bearer_refinement.specs.run_bearers.Things.{PlainUnits}
use Rattle.proof_bearer_refinement.specs.run_bearers.Bearers.{Numbering}
use Rattle.proof_bearer_refinement.specs.refinement_facts.Asked.{down_after, up_after}

down_more : (d : down_models.Model) (os more : List down.ModelStep) → down.run d (os ++ more) ≡ down.run (down.run d os) more
unfolding down.run
down_more d [] more = refl
down_more d (o ∷ os) more = down_more (down.after d o) os more

up_more : (u : up_models.Model) (os more : List up.ModelStep) → up.run u (os ++ more) ≡ up.run (up.run u os) more
unfolding up.run
up_more u [] more = refl
up_more u (o ∷ os) more = up_more (up.after u o) os more

module _ (n : Numbering) (ue : UeId) (bearer : BearerId) (units : PlainUnits) (sn : SnBits) (quota : ℕ) where
  pub down_runs : (d : down_models.Model) (cs : Contexts) (hs : List (Happening Pdu))
      → down_after n ue bearer units sn quota d cs hs ≡ down.run d (downs.all_orders plain_way ue bearer sn quota cs hs)
  unfolding down.run downs.all_orders
  down_runs d cs [] = refl
  down_runs d cs (h ∷ hs) =
      let next = context_after plain_way ue bearer cs h in
      down_runs (down.run d (downs.orders_by cs h)) next hs
      ∙ sym (down_more d (downs.orders_by cs h) (downs.all_orders plain_way ue bearer sn quota next hs))

  pub up_runs : (u : up_models.Model) (cs : Contexts) (hs : List (Happening Pdu))
      → up_after n ue bearer units sn quota u cs hs ≡ up.run u (ups.all_orders plain_way ue bearer cs hs)
  unfolding up.run ups.all_orders
  up_runs u cs [] = refl
  up_runs u cs (h ∷ hs) =
      let next = context_after plain_way ue bearer cs h in
      up_runs (up.run u (ups.orders_by cs h)) next hs ∙ sym (up_more u (ups.orders_by cs h) (ups.all_orders plain_way ue bearer next hs))
