-- After an order a bearer's hop leads where the order says, and no other context's does so otherwise.
use Rattle.std.proofs.Common.{inl, inr, ◌≡◌, ◌≢◌, ◌⊎◌, ℕ, Option, Some, sym, subst, ◌∙◌}
use Rattle.gnb_types.specs.declared.names.SnBits.{SnBits}
use Rattle.gnb_types.specs.declared.names.UeId.{UeId}
use Rattle.gnb_types.specs.declared.names.BearerId.{BearerId}
use Rattle.unit_defs.specs.Ways.{Pdu, gives}
use Rattle.run_defs.specs.Runs.{plain_way}
use Rattle.proof_cu_up_orders.specs.context_tests.Tests.{IsTested}
use Rattle.bearer_defs.specs.chain_defs.Models as down_models
use Rattle.bearer_defs.specs.chain_defs.Orders as down
use Rattle.bearer_defs.specs.uplink_defs.Models as up_models
use Rattle.bearer_defs.specs.uplink_defs.Orders as up
use Rattle.proof_cu_up_orders.specs.chain_rows.Shown.{items_of}
use Rattle.proof_cu_up_orders.specs.uplink_rows.Shown as up_shown
use Rattle.proof_cu_up_orders.specs.context_orders.Orders.{CuUpModel, ContextStep, makes, adds, switches, freezes, knows, resumes, releases, closes, takes, polls, done}
use Rattle.proof_cu_up_orders.specs.down_orders.Down as down_rows
use Rattle.proof_cu_up_orders.specs.orders.Up as up_rows
use Rattle.proof_cu_up_orders.specs.bearer_orders.Happenings.{Beside}
use Rattle.proof_cu_up_orders.specs.bearer_orders.Down as downs
use Rattle.proof_cu_up_orders.specs.bearer_orders.Up as ups
use Rattle.proof_cu_up_orders.specs.bearer_lists.Puts.{HopEnds, ends_of, hop_after, PutsOwn}
use Rattle.proof_cu_up_orders.specs.bearer_lists.Down as down_lists
use Rattle.proof_cu_up_orders.specs.bearer_lists.Up as up_lists
use Rattle.proof_cu_up_orders.proofs.bearer_lists.Hops.{order_puts}
use Rattle.proof_cu_up_orders.proofs.bearer_lists.Down.{moves_down}
use Rattle.proof_cu_up_orders.proofs.bearer_lists.Up.{moves_up}
use Rattle.proof_bearer_refinement.specs.run_bearers.Things.{PlainUnits}
use Rattle.proof_bearer_refinement.specs.run_bearers.Bearers.{Numbering}
use Rattle.proof_bearer_refinement.specs.refinement_facts.Asked.{AsksDown, AsksUp, Asks, HopLeads}
use Rattle.proof_bearer_refinement.proofs.refinement_facts.Puts.{Outs}

fit_of : {X Y Z : Type 0} → X ⊎ (Y × Z) → X ⊎ Y
fit_of (inl h) = inl h
fit_of (inr h) = inr h.0

module _ (x : ℕ) (b : Beside) (q q1 : CuUpModel) (more : Outs) where
  for_down : (d : down_models.Model) (ord : ContextStep Pdu) → IsTested b.final q ord → AsksDown d x b q ord → done plain_way ord q ≡ gives more (Some q1)
      → down_lists.IsFor q ord
  for_down d (makes instance sn quota target teid) tested asked at = absurd tested
  for_down d closes tested asked at = absurd cc
  for_down d (takes kind teid item) tested asked at = (asked.0, fit_of asked.2)
  for_down d (freezes peer down up) tested asked at = tt
  for_down d (adds teid) tested asked at = asked.2
  for_down d (switches du teid) tested asked at = asked.2
  for_down d (knows status) tested asked at = asked.2
  for_down d resumes tested asked at = asked.2
  for_down d releases tested asked at = asked.2
  for_down d polls tested asked at = asked.2

  for_up : (u : up_models.Model) (ord : ContextStep Pdu) → IsTested b.final q ord → AsksUp u x b q ord → done plain_way ord q ≡ gives more (Some q1)
      → up_lists.IsFor q ord
  for_up u (makes instance sn quota target teid) tested asked at = absurd tested
  for_up u closes tested asked at = absurd cc
  for_up u (takes kind teid item) tested asked at = (asked.0, asked.2)
  for_up u (freezes peer down up) tested asked at = tt
  for_up u (adds teid) tested asked at = asked.1
  for_up u (switches du teid) tested asked at = asked.1
  for_up u (knows status) tested asked at = asked.1
  for_up u resumes tested asked at = asked.1
  for_up u releases tested asked at = asked.1
  for_up u polls tested asked at = tt

  module _ (n : Numbering) (ue : UeId) (bearer : BearerId) (units : PlainUnits) (sn : SnBits) (quota : ℕ) (d : down_models.Model) (u : up_models.Model)
      (is_down : down_rows.IsDown (d.members x) q) (is_up : up_rows.IsUp (u.members x) q) (ord : ContextStep Pdu) (tested : IsTested b.final q ord)
      (asked : Asks n ue bearer units sn quota d u x b q ord) (at : done plain_way ord q ≡ gives more (Some q1)) where
    abbrev pub after_down : down_models.Model
    after_down = down.run d (downs.orders_of x b q ord)

    abbrev pub after_up : up_models.Model
    after_up = up.run u (ups.orders_of x b q ord)

    abbrev next_down : ℕ
    next_down = down_lists.next_after b.to (d.members x) ord

    abbrev next_up : ℕ
    next_up = up_lists.next_after b.to (u.members x) ord

    pub down_moved : down_lists.Moved d after_down x (down_lists.n3_left b.left_down (d.members x) ord)
        (down_lists.forwarded_left b.left_down (d.members x) ord) next_down (items_of more)
    down_moved = moves_down plain_way d x q q1 is_down b ord (for_down d ord tested asked.down at) asked.other_down more at

    pub up_moved : up_lists.Moved u after_up x (up_lists.uplink_left b.left_up (u.members x) ord) (up_lists.forwarded_left b.left_up (u.members x) ord)
        next_up (up_shown.items_of more)
    up_moved = moves_up plain_way u x q q1 is_up b ord (for_up u ord tested asked.up at) asked.other_up more at

    pub ends_then : ends_of q1.bearer.hop ≡ hop_after q ord
    ends_then = (subst (PutsOwn q ord) at (order_puts plain_way q ord)).1

    pub other_down_then : (after_down.members x).next_hop ≢ x
    other_down_then same = asked.other_down (sym down_moved.hop_here ∙ same)

    pub other_up_then : (after_up.members x).next_hop ≢ x
    other_up_then same = asked.other_up (sym up_moved.hop_here ∙ same)

    pub leads_then : HopLeads n ue bearer units (ends_of q1.bearer.hop) (after_down.members x).next_hop (after_up.members x).next_hop
    leads_then =
        subst (λ (h : Option HopEnds). HopLeads n ue bearer units h (after_down.members x).next_hop (after_up.members x).next_hop) (sym ends_then)
        (subst (λ (z : ℕ). HopLeads n ue bearer units (hop_after q ord) z (after_up.members x).next_hop) (sym down_moved.hop_here)
        (subst (λ (z : ℕ). HopLeads n ue bearer units (hop_after q ord) next_down z) (sym up_moved.hop_here) asked.leads))
