-- What a CU-UP asks of its bearers puts nothing on their uplinks; what a DU puts goes on uplinks whose TEIDs were given.
use Rattle.std.proofs.Common.{◌≡◌, ◌≤◌, ◌+◌, ℕ, List, [], ◌∷◌, ◌++◌, map, Option, Some, None, refl, sym, ap, subst, ◌∙◌, arith}
use Rattle.std.specs.List.{AllByRecursion}
use Rattle.std.specs.Prelude.{Bool, true, false, if◌then◌else◌}
use Rattle.gnb_types.specs.declared.names.UeId.{UeId}
use Rattle.gnb_types.specs.declared.names.BearerId.{BearerId}
use Rattle.unit_defs.specs.Ways.{Pdu, packet_pdu, report_pdu, packet_content, report_content, Load, numbered, fresh, frame, uplink, status, end_marker, Taken, fresh_item, numbered_item, frame_item, uplink_item, status_item, end_item}
use Rattle.unit_defs.specs.CuUpRecords.{TunnelKind, n3, f1u_uplink, forwarding_down, forwarding_up}
use Rattle.run_defs.specs.Units.{cu_up_of}
use Rattle.run_defs.specs.Runs.{plain_way}
use Rattle.proof_run_steps.specs.teids.Given.{below}
use Rattle.law_tunnels_are_owned.specs.owner_facts.Owned.{AreOwned}
use Rattle.bearer_defs.specs.uplink_defs.Models as up_models
use Rattle.bearer_defs.specs.uplink_defs.Orders as up
use Rattle.proof_cu_up_orders.specs.context_orders.Orders.{CuUpModel, ContextStep, makes, adds, switches, freezes, knows, resumes, releases, closes, takes, polls}
use Rattle.proof_cu_up_orders.specs.orders.Up as up_rows
use Rattle.proof_cu_up_orders.specs.bearer_orders.Happenings.{Beside, asks, Contexts, context_after}
use Rattle.proof_cu_up_orders.specs.bearer_orders.Up as ups
use Rattle.proof_bearer_refinement.specs.run_bearers.Things.{PlainUnits}
use Rattle.proof_bearer_refinement.specs.run_bearers.Bearers.{Place, Numbering}
use Rattle.proof_bearer_refinement.specs.refinement_facts.Refinements.{Owned}
use Rattle.proof_bearer_refinement.specs.du_puts.Puts.{AllLead, LeadsUp, orders_up, order_up, owned_to}
use Rattle.proof_bearer_refinement.proofs.du_puts.Apart.{place, IsAt, at_end}
use Rattle.proof_node_orders.specs.du_inputs.Puts.{OnTunnel}
use Rattle.proof_node_orders.specs.du_steps.Steps.{order_of}
use Rattle.law_handover_delivers.proofs.unused_uplinks.Orders.{IsEmpty, PutsNone, put_empty}

-- ---- a CU-UP

end_puts_none : (x : ℕ) (t : Bool) → PutsNone (ups.end_of x t)
end_puts_none x true = tt
end_puts_none x false = tt

knows_puts_none : (x : ℕ) (t : Bool) → AllByRecursion PutsNone (if t then up.resumes x ∷ [] else [])
knows_puts_none x true = (tt, tt)
knows_puts_none x false = tt

item_puts_none : (x : ℕ) (rest : List up_models.Item) (kind : TunnelKind) (teid : ℕ) (item : Taken Pdu)
    → AllByRecursion PutsNone (up_rows.item_orders x rest kind teid item)
item_puts_none x rest f1u_uplink teid (uplink_item (packet_content (Some count) packet)) = (tt, tt)
item_puts_none x rest f1u_uplink teid (uplink_item (packet_content None packet)) = tt
item_puts_none x rest f1u_uplink teid (uplink_item (report_content fmc bits)) = tt
item_puts_none x rest f1u_uplink teid (fresh_item packet) = tt
item_puts_none x rest f1u_uplink teid (numbered_item count packet) = tt
item_puts_none x rest f1u_uplink teid (frame_item poll restart number pdu) = tt
item_puts_none x rest f1u_uplink teid (status_item lost delivered) = tt
item_puts_none x rest f1u_uplink teid end_item = (tt, tt)
item_puts_none x rest forwarding_up teid (numbered_item (Some count) packet) = (tt, tt)
item_puts_none x rest forwarding_up teid (numbered_item None packet) = tt
item_puts_none x rest forwarding_up teid (fresh_item packet) = tt
item_puts_none x rest forwarding_up teid (uplink_item content) = tt
item_puts_none x rest forwarding_up teid (frame_item poll restart number pdu) = tt
item_puts_none x rest forwarding_up teid (status_item lost delivered) = tt
item_puts_none x rest forwarding_up teid end_item = (tt, tt)
item_puts_none x rest n3 teid item = tt
item_puts_none x rest forwarding_down teid item = tt

order_puts_none : (x : ℕ) (b : Beside) (p : Option CuUpModel) (order : ContextStep Pdu) → AllByRecursion PutsNone (ups.orders_in x b p order)
order_puts_none x b None (makes instance sn quota target teid) = (tt, tt)
order_puts_none x b None (adds teid) = tt
order_puts_none x b None (switches du teid) = tt
order_puts_none x b None (freezes peer down up) = tt
order_puts_none x b None (knows its_status) = tt
order_puts_none x b None resumes = tt
order_puts_none x b None releases = tt
order_puts_none x b None closes = tt
order_puts_none x b None (takes kind teid item) = tt
order_puts_none x b None polls = tt
order_puts_none x b (Some p) (makes instance sn quota target teid) = tt
order_puts_none x b (Some p) (adds teid) = (tt, tt)
order_puts_none x b (Some p) (switches du teid) = (tt, tt)
order_puts_none x b (Some p) (freezes peer down up) = (tt, tt)
order_puts_none x b (Some p) (knows its_status) = (tt, knows_puts_none x p.at.flags.arrived)
order_puts_none x b (Some p) resumes = (tt, tt)
order_puts_none x b (Some p) releases = (tt, tt)
order_puts_none x b (Some p) closes = (end_puts_none x (ups.is_done p), tt)
order_puts_none x b (Some p) (takes kind teid item) = item_puts_none x b.left_up kind teid item
order_puts_none x b (Some p) polls = tt

both : (xs ys : List up.ModelStep) → AllByRecursion PutsNone xs → AllByRecursion PutsNone ys → AllByRecursion PutsNone (xs ++ ys)
both [] ys a b = b
both (x ∷ xs) ys a b = (a.0, both xs ys a.1 b)

pub asked_puts_none : (ue : UeId) (bearer : BearerId) (x : ℕ) (b : Beside) (cs : Contexts) (orders : List (ContextStep Pdu))
    → AllByRecursion PutsNone (ups.all_orders plain_way ue bearer cs (map (λ (order : ContextStep Pdu). asks x order b) orders))
unfolding ups.all_orders
asked_puts_none ue bearer x b cs [] = tt
asked_puts_none ue bearer x b cs (order ∷ orders) =
    let next = context_after plain_way ue bearer cs (asks x order b) in
    both (ups.orders_in x b (cs x) order) (ups.all_orders plain_way ue bearer next (map (λ (o : ContextStep Pdu). asks x o b) orders))
    (order_puts_none x b (cs x) order) (asked_puts_none ue bearer x b next orders)

-- ---- a DU

pub run_more : (u : up_models.Model) (os more : List up.ModelStep) → up.run u (os ++ more) ≡ up.run (up.run u os) more
unfolding up.run
run_more u [] more = refl
run_more u (o ∷ os) more = run_more (up.after u o) os more

module _ (n : Numbering) (ue : UeId) (bearer : BearerId) (units : PlainUnits) (owned : AreOwned units) (at : Place) (teid : ℕ)
    (new : below (cu_up_of units at.gnb at.number).next_teid ≤ teid) where
  -- an open tunnel is another one
  other : (p : OnTunnel) (o : Owned) → owned_to n ue bearer units p ≡ Some o → n.number_of at ≡ o.context → teid ≡ p.teid → ⊥
  other p o is here same =
      let found : IsAt n ue bearer units p.to p.teid o = at_end n ue bearer units p.to p.teid o is in
      let given : p.teid + 1 ≤ below (cu_up_of units found.gnb found.number).next_teid
      = (owned.0 found.gnb found.number).2 p.teid found.owner found.found in
      let places : Some at ≡ Some (place found.gnb found.number found.owner.context)
      = sym (n.found at) ∙ ap n.place_of (here ∙ ap (λ (w : Owned). w.context) found.is) ∙ n.found (place found.gnb found.number found.owner.context) in
      let one : at ≡ place found.gnb found.number found.owner.context = cc in
      let low : below (cu_up_of units found.gnb found.number).next_teid ≤ teid
      = subst (λ (z : Place). below (cu_up_of units z.gnb z.number).next_teid ≤ teid) one new in
      let low_here : below (cu_up_of units found.gnb found.number).next_teid ≤ p.teid
      = subst (λ (k : ℕ). below (cu_up_of units found.gnb found.number).next_teid ≤ k) same low in
      absurd (omega arith)

  abbrev IsEmptyIn : up_models.Model → Type 0
  IsEmptyIn u = IsEmpty (u.members (n.number_of at)) teid

  after_order : (u : up_models.Model) (p : OnTunnel) (load : Load Pdu) (o : Owned) → owned_to n ue bearer units p ≡ Some o → LeadsUp u.station load (Some o)
      → IsEmptyIn u → IsEmptyIn (up.run u (order_of o.context u p.teid load)) × ((up.run u (order_of o.context u p.teid load)).station ≡ u.station)
  unfolding up.run up.after
  after_order u p (uplink (packet_pdu count packet)) o is lead empty = (
    put_empty u.members u.station p.teid ((u.members u.station).uplink p.teid ++ up_models.numbered count packet ∷ []) (n.number_of at) teid
        (λ here same. other p o is (here ∙ sym lead.1) same) empty,
    refl,
  )
  after_order u p (uplink (report_pdu fmc bits)) o is lead empty = (empty, refl)
  after_order u p end_marker o is lead empty = (
    put_empty u.members o.context p.teid ((u.members o.context).uplink p.teid ++ up_models.end_marker ∷ []) (n.number_of at) teid
        (λ here same. other p o is here same) empty,
    refl,
  )
  after_order u p (fresh packet) o is lead empty = (empty, refl)
  after_order u p (numbered sn count packet) o is lead empty = (empty, refl)
  after_order u p (frame poll restart number pdu) o is lead empty = (empty, refl)
  after_order u p (status lost delivered) o is lead empty = (empty, refl)

  one_put : (u : up_models.Model) (p : OnTunnel) (w : Option Owned) → owned_to n ue bearer units p ≡ w → LeadsUp u.station p.load w → IsEmptyIn u
      → IsEmptyIn (up.run u (order_up u p w)) × ((up.run u (order_up u p w)).station ≡ u.station)
  unfolding up.run
  one_put u p None is lead empty = (empty, refl)
  one_put u p (Some o) is lead empty = after_order u p p.load o is lead empty

  pub puts_elsewhere : (u : up_models.Model) (ps : List OnTunnel) → AllLead n ue bearer units u.station ps → IsEmptyIn u
      → IsEmptyIn (up.run u (orders_up n ue bearer units u ps))
  unfolding up.run orders_up
  puts_elsewhere u [] lead empty = empty
  puts_elsewhere u (p ∷ ps) lead empty =
      let first : List up.ModelStep = order_up u p (owned_to n ue bearer units p) in
      let v : up_models.Model = up.run u first in
      let one = one_put u p (owned_to n ue bearer units p) refl lead.0 empty in
      ap (λ (w : up_models.Model). (w.members (n.number_of at)).uplink teid) (run_more u first (orders_up n ue bearer units v ps))
      ∙ puts_elsewhere v ps (subst (λ (k : ℕ). AllLead n ue bearer units k ps) (sym one.1) lead.1) one.0
