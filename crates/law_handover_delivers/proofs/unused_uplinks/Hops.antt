-- Orders of the core, of DUs, and of the terminal and its radio leave where hops lead.
use Rattle.std.proofs.Common.{◌≡◌, ◌==◌, ℕ, Bool, true, false, List, [], ◌∷◌, Option, Some, None, refl, sym, ap, ◌∙◌, eqb-true}
use Rattle.std.specs.Prelude.{if◌then◌else◌}
use Rattle.std.specs.List.{AllByRecursion}
use Rattle.gnb_types.specs.declared.names.UeId.{UeId}
use Rattle.gnb_types.specs.declared.names.BearerId.{BearerId}
use Rattle.pdcp_defs.specs.Receivers.{Delivery, is_duplicate, stored, deliver}
use Rattle.unit_defs.specs.Ways.{Pdu, packet_pdu, report_pdu, Load, numbered, fresh, frame, uplink, status, end_marker}
use Rattle.bearer_defs.specs.chain_defs.Models as down_models
use Rattle.bearer_defs.specs.chain_defs.Models.{set}
use Rattle.bearer_defs.specs.chain_defs.Orders as down
use Rattle.bearer_defs.specs.uplink_defs.Models as up_models
use Rattle.bearer_defs.specs.uplink_defs.Orders as up
use Rattle.proof_cu_up_orders.specs.context_orders.Shown.{is_bearer}
use Rattle.proof_bearer_refinement.specs.run_bearers.Things.{PlainUnits}
use Rattle.proof_bearer_refinement.specs.run_bearers.Bearers.{Numbering}
use Rattle.proof_bearer_refinement.specs.refinement_facts.Refinements.{Owned}
use Rattle.proof_bearer_refinement.specs.du_puts.Puts.{orders_up, order_up, owned_to}
use Rattle.proof_node_orders.specs.du_inputs.Puts.{OnTunnel}
use Rattle.proof_node_orders.specs.du_steps.Steps.{order_of}
use Rattle.proof_node_orders.specs.core_rows.Shown.{Places, Goal, to_first, orders_to}
use Rattle.proof_bearer_refinement.specs.core_step.Core.{orders_offered}
use Rattle.proof_bearer_refinement.specs.runs.Steps.{IsOfRadio, IsOfTerminal}
use Rattle.law_handover_delivers.proofs.unused_uplinks.Puts.{run_more}

abbrev pub SameDown : down_models.Model → down_models.Model → Type 0
SameDown d e = (y : ℕ) → (e.members y).next_hop ≡ (d.members y).next_hop

abbrev pub SameUp : up_models.Model → up_models.Model → Type 0
SameUp u v = (y : ℕ) → (v.members y).next_hop ≡ (u.members y).next_hop

set_down : (d : down_models.Model) (x : ℕ) (m : down_models.Member) → m.next_hop ≡ (d.members x).next_hop → (y : ℕ)
    → (set d.members x m y).next_hop ≡ (d.members y).next_hop
set_down d x m same y = by (y == x) refl
  where
    by : (t : Bool) → (y == x) ≡ t → (if t then m else d.members y).next_hop ≡ (d.members y).next_hop
    by true e = same ∙ ap (λ (z : ℕ). (d.members z).next_hop) (sym (eqb-true y x e))
    by false e = refl

set_up : (u : up_models.Model) (x : ℕ) (m : up_models.Member) → m.next_hop ≡ (u.members x).next_hop → (y : ℕ)
    → (set u.members x m y).next_hop ≡ (u.members y).next_hop
set_up u x m same y = by (y == x) refl
  where
    by : (t : Bool) → (y == x) ≡ t → (if t then m else u.members y).next_hop ≡ (u.members y).next_hop
    by true e = same ∙ ap (λ (z : ℕ). (u.members z).next_hop) (sym (eqb-true y x e))
    by false e = refl

pub offered_same : (d : down_models.Model) (ue : UeId) (bearer : BearerId) (who : UeId) (which : BearerId) (packet : List ℕ)
    → SameDown d (down.run d (orders_offered ue bearer who which packet))
unfolding down.run down.after
offered_same d ue bearer who which octets = by (is_bearer ue bearer who which)
  where
    by : (t : Bool) → SameDown d (down.run d (if t then down.offers octets ∷ [] else []))
    by true = set_down d d.path _ refl
    by false = λ y. refl

pub told_same : (d : down_models.Model) (places : Places) (goal : Option Goal) → SameDown d (down.run d (orders_to places goal))
unfolding down.run down.after
told_same d places None = λ y. refl
told_same d places (Some goal) = by goal.teids
  where
    by : (teids : List ℕ) → SameDown d (down.run d (to_first places goal.up teids))
    by [] = λ y. refl
    by (teid ∷ teids) = set_down d d.path _ refl

load_same : (x teid : ℕ) (u : up_models.Model) (load : Load Pdu) → SameUp u (up.run u (order_of x u teid load))
unfolding up.run up.after
load_same x teid u (uplink (packet_pdu count octets)) = set_up u u.station _ refl
load_same x teid u (uplink (report_pdu fmc bits)) = λ y. refl
load_same x teid u end_marker = set_up u x _ refl
load_same x teid u (fresh octets) = λ y. refl
load_same x teid u (numbered sn count octets) = λ y. refl
load_same x teid u (frame poll restart number pdu) = λ y. refl
load_same x teid u (status lost delivered) = λ y. refl

put_same : (u : up_models.Model) (p : OnTunnel) (o : Option Owned) → SameUp u (up.run u (order_up u p o))
unfolding up.run
put_same u p None = λ y. refl
put_same u p (Some o) = load_same o.context p.teid u p.load

pub puts_same : (n : Numbering) (ue : UeId) (bearer : BearerId) (units : PlainUnits) (u : up_models.Model) (ps : List OnTunnel)
    → SameUp u (up.run u (orders_up n ue bearer units u ps))
unfolding up.run orders_up
puts_same n ue bearer units u [] y = refl
puts_same n ue bearer units u (p ∷ ps) y =
    let first : List up.ModelStep = order_up u p (owned_to n ue bearer units p) in
    let v : up_models.Model = up.run u first in
    ap (λ (w : up_models.Model). (w.members y).next_hop) (run_more u first (orders_up n ue bearer units v ps))
    ∙ puts_same n ue bearer units v ps y ∙ put_same u p (owned_to n ue bearer units p) y

pub radio_same : (d : down_models.Model) (os : List down.ModelStep) → AllByRecursion IsOfRadio os → SameDown d (down.run d os)
unfolding down.run down.after
radio_same d [] all = λ y. refl
radio_same d (down.arrives x ∷ os) all = radio_same (down.after d (down.arrives x)) os all.1
radio_same d (down.fails ∷ os) all = radio_same (down.after d down.fails) os all.1
radio_same d (down.carries count octets rest ∷ os) all = λ y.
    radio_same (down.after d (down.carries count octets rest)) os all.1 y ∙ by y (is_duplicate d.terminal count) (deliver (stored d.terminal count octets))
  where
    by : (y : ℕ) (t : Bool) (z : Delivery (List ℕ)) → ((down.handed (record d { air = rest }) t z).members y).next_hop ≡ (d.members y).next_hop
    by y true z = refl
    by y false z = refl
radio_same d (down.offers octets ∷ os) all = absurd all.0
radio_same d (down.switches_path to ∷ os) all = absurd all.0
radio_same d (down.makes x target teid ∷ os) all = absurd all.0
radio_same d (down.freezes x to hop ∷ os) all = absurd all.0
radio_same d (down.knows x its_status ∷ os) all = absurd all.0
radio_same d (down.switches x downlink epoch ∷ os) all = absurd all.0
radio_same d (down.resumes x ∷ os) all = absurd all.0
radio_same d (down.releases x ∷ os) all = absurd all.0
radio_same d (down.closes x ∷ os) all = absurd all.0
radio_same d (down.keeps_n3 x octets rest ∷ os) all = absurd all.0
radio_same d (down.keeps_fresh x octets rest ∷ os) all = absurd all.0
radio_same d (down.passes_n3 x octets rest ∷ os) all = absurd all.0
radio_same d (down.passes_fresh x octets rest ∷ os) all = absurd all.0
radio_same d (down.sends x count octets rest ∷ os) all = absurd all.0
radio_same d (down.passes_numbered x count octets rest ∷ os) all = absurd all.0
radio_same d (down.drops x count octets rest ∷ os) all = absurd all.0
radio_same d (down.ends_n3 x rest ∷ os) all = absurd all.0
radio_same d (down.ends_hop x rest ∷ os) all = absurd all.0
radio_same d (down.numbers x octets rest ∷ os) all = absurd all.0
radio_same d (down.confirms x count ∷ os) all = absurd all.0
radio_same d (down.reports x fmc bits ∷ os) all = absurd all.0
radio_same d (down.reports_loss x ∷ os) all = absurd all.0
radio_same d (down.sends_again x ∷ os) all = absurd all.0

pub terminal_same : (u : up_models.Model) (os : List up.ModelStep) → AllByRecursion IsOfTerminal os → SameUp u (up.run u os)
unfolding up.run up.after
terminal_same u [] all = λ y. refl
terminal_same u (up.offers octets ∷ os) all = terminal_same (up.after u (up.offers octets)) os all.1
terminal_same u (up.numbers octets rest ∷ os) all = terminal_same (up.after u (up.numbers octets rest)) os all.1
terminal_same u (up.connects ∷ os) all = terminal_same (up.after u up.connects) os all.1
terminal_same u (up.leaves ∷ os) all = terminal_same (up.after u up.leaves) os all.1
terminal_same u (up.arrives x ∷ os) all = terminal_same (up.after u (up.arrives x)) os all.1
terminal_same u (up.acknowledges count rest ∷ os) all = terminal_same (up.after u (up.acknowledges count rest)) os all.1
terminal_same u (up.reports fmc bits ∷ os) all = terminal_same (up.after u (up.reports fmc bits)) os all.1
terminal_same u (up.carries teid count octets rest ∷ os) all = absurd all.0
terminal_same u (up.marks x teid ∷ os) all = absurd all.0
terminal_same u (up.makes x teid ∷ os) all = absurd all.0
terminal_same u (up.adds x teid ∷ os) all = absurd all.0
terminal_same u (up.freezes x to hop ∷ os) all = absurd all.0
terminal_same u (up.knows x its_status ∷ os) all = absurd all.0
terminal_same u (up.switches x ∷ os) all = absurd all.0
terminal_same u (up.resumes x ∷ os) all = absurd all.0
terminal_same u (up.releases x ∷ os) all = absurd all.0
terminal_same u (up.closes x ∷ os) all = absurd all.0
terminal_same u (up.discards x ∷ os) all = absurd all.0
terminal_same u (up.takes x from count octets rest ∷ os) all = absurd all.0
terminal_same u (up.ends_uplink x teid rest ∷ os) all = absurd all.0
terminal_same u (up.ends_hop x rest ∷ os) all = absurd all.0
