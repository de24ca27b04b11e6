-- What a DU puts for a bearer where it isn't given a PDU of its radio up: statuses and End Markers.
use Rattle.std.proofs.Common.{◌≡◌, ℕ, Bool, true, false, ◌||◌, List, [], ◌∷◌, ◌++◌, Option, Some, None, refl, sym, subst}
use Rattle.std.specs.Prelude.{if◌then◌else◌}
use Rattle.std.specs.List.{AllByRecursion}
use Rattle.gnb_types.specs.declared.names.UeId.{UeId}
use Rattle.gnb_types.specs.declared.names.BearerId.{BearerId}
use Rattle.gnb_types.specs.declared.names.Dir.TheVariants.{Dl, Ul}
use Rattle.message_types.specs.declared.rrc.Token.{Token}
use Rattle.unit_defs.specs.Ways.{Message, Pdu, packet_pdu, report_pdu, Load, fresh, numbered, frame, uplink, status, end_marker, Input, control_input, packet_input, radio_input, confirm_input, offer_input, tick_input, order_input}
use Rattle.unit_defs.specs.Du.{missing, is_missing}
use Rattle.run_defs.specs.Runs.{plain_way}
use Rattle.proof_node_orders.specs.du_inputs.Changes.{DuModel, Change, takes, renews, sets_up, ends, stays, model_of, change_by}
use Rattle.proof_node_orders.specs.du_inputs.Puts.{OnTunnel, is_of, on_uplink, of_number, of_model, of_change}
use Rattle.proof_node_orders.specs.du_puts.Inputs.{ups_by}
use Rattle.proof_bearer_refinement.specs.run_unit_inputs.Happenings.{DuRecord}
use Rattle.proof_bearer_refinement.specs.run_bearers.Things.{PlainUnits}
use Rattle.proof_bearer_refinement.specs.run_bearers.Bearers.{Numbering}
use Rattle.bearer_defs.specs.uplink_defs.Models.{Model}
use Rattle.bearer_defs.specs.uplink_defs.Orders as up
use Rattle.bearer_defs.specs.uplink_defs.Assumptions as guards
use Rattle.proof_bearer_refinement.specs.refinement_facts.Refinements.{Owned}
use Rattle.proof_bearer_refinement.specs.du_puts.Puts.{IsAtStation, order_up, owned_to, orders_up}

-- no packet goes up
abbrev pub IsQuietLoad : Load Pdu → Type 0
IsQuietLoad (uplink (packet_pdu count sdu)) = ⊥
IsQuietLoad load = Unit {0}

abbrev pub AreQuiet : List OnTunnel → Type 0
AreQuiet ps = AllByRecursion (λ (p : OnTunnel). IsQuietLoad p.load) ps

model_quiet : (f : DuModel → List OnTunnel) (o : Option DuModel) → ((d : DuModel) → AreQuiet (f d)) → AreQuiet (of_model f o)
model_quiet f None each = tt
model_quiet f (Some d) each = each d

change_quiet : (change : Change) (d : DuModel) → AreQuiet (of_change {M = Message Token} {C = Token} plain_way change d)
change_quiet (takes f) d = by (is_missing plain_way d.bearer f.number || f.poll)
  where
    by : (t : Bool) → AreQuiet (if t then on_uplink d (status (missing plain_way d.bearer f.number) None) else [])
    by true = (tt, tt)
    by false = tt
change_quiet ends d = (tt, tt)
change_quiet stays d = tt
change_quiet (renews epoch teid) d = tt
change_quiet (sets_up part) d = tt

number_quiet : (o : Option ℕ) (d : DuModel) → AreQuiet (of_number o d)
number_quiet None d = tt
number_quiet (Some number) d = (tt, tt)

if_quiet : (t : Bool) (ps : List OnTunnel) → AreQuiet ps → AreQuiet (if t then ps else [])
if_quiet true ps all = all
if_quiet false ps all = tt

module _ (ue : UeId) (bearer : BearerId) where
  -- an input that isn't a PDU of this bearer's radio up
  abbrev pub IsNotOurs : Input Token Pdu → Type 0
  IsNotOurs (radio_input other q Ul pdu content) = is_of ue bearer other q ≡ false
  IsNotOurs input = Unit {0}

  pub puts_quiet : (r : DuRecord) (input : Input Token Pdu) → IsNotOurs input → AreQuiet (ups_by plain_way ue bearer r input)
  unfolding ups_by
  puts_quiet r (radio_input other q Ul pdu content) far =
      model_quiet (λ d. if is_of ue bearer other q then on_uplink d (uplink pdu) else []) (model_of r ue bearer)
      (λ d. subst (λ (t : Bool). AreQuiet (if t then on_uplink d (uplink pdu) else [])) (sym far) tt)
  puts_quiet r (confirm_input other q Dl pdu content) far =
      model_quiet (λ d. if is_of ue bearer other q then of_number (plain_way.number d.sn pdu) d else []) (model_of r ue bearer)
      (λ d. if_quiet (is_of ue bearer other q) (of_number (plain_way.number d.sn pdu) d) (number_quiet (plain_way.number d.sn pdu) d))
  puts_quiet r (radio_input other q Dl pdu content) far = model_quiet _ (model_of r ue bearer) (change_quiet (change_by plain_way ue bearer r (radio_input other q Dl pdu content)))
  puts_quiet r (confirm_input other q Ul pdu content) far = model_quiet _ (model_of r ue bearer) (change_quiet (change_by plain_way ue bearer r (confirm_input other q Ul pdu content)))
  puts_quiet r (control_input from m) far = model_quiet _ (model_of r ue bearer) (change_quiet (change_by plain_way ue bearer r (control_input from m)))
  puts_quiet r (packet_input teid item) far = model_quiet _ (model_of r ue bearer) (change_quiet (change_by plain_way ue bearer r (packet_input teid item)))
  puts_quiet r (offer_input u b p) far = model_quiet _ (model_of r ue bearer) (change_quiet (change_by plain_way ue bearer r (offer_input u b p)))
  puts_quiet r tick_input far = model_quiet _ (model_of r ue bearer) (change_quiet (change_by plain_way ue bearer r tick_input))
  puts_quiet r (order_input order) far = model_quiet _ (model_of r ue bearer) (change_quiet (change_by plain_way ue bearer r (order_input order)))

pub at_quiet : (station x : ℕ) (load : Load Pdu) → IsQuietLoad load → IsAtStation station load x
at_quiet station x (uplink (packet_pdu count sdu)) quiet = absurd quiet
at_quiet station x (uplink (report_pdu fmc bits)) quiet = tt
at_quiet station x (fresh p) quiet = tt
at_quiet station x (numbered sn count p) quiet = tt
at_quiet station x (frame poll restart number pdu) quiet = tt
at_quiet station x (status lost delivered) quiet = tt
at_quiet station x end_marker quiet = tt

-- ---- End Markers ask nothing

one_kept : (u : Model) (p : OnTunnel) (load : Load Pdu) → p.load ≡ load → (o : Option Owned) → IsQuietLoad load → (more : List up.ModelStep)
    → guards.AreKept (up.run u (order_up u (record p { load = load }) o)) more → guards.AreKept u (order_up u (record p { load = load }) o ++ more)
unfolding guards.AreKept guards.IsReady guards.IsAssumed up.run
one_kept u p load is None quiet more kept = kept
one_kept u p (uplink (packet_pdu count sdu)) is (Some o) quiet more kept = absurd quiet
one_kept u p (uplink (report_pdu fmc bits)) is (Some o) quiet more kept = kept
one_kept u p (fresh x) is (Some o) quiet more kept = kept
one_kept u p (numbered sn count x) is (Some o) quiet more kept = kept
one_kept u p (frame poll restart number pdu) is (Some o) quiet more kept = kept
one_kept u p (status lost delivered) is (Some o) quiet more kept = kept
one_kept u p end_marker is (Some o) quiet more kept = (tt, tt, kept)

pub quiet_kept : (n : Numbering) (ue : UeId) (bearer : BearerId) (units : PlainUnits) (u : Model) (ps : List OnTunnel) → AreQuiet ps
    → guards.AreKept u (orders_up n ue bearer units u ps)
unfolding orders_up guards.AreKept
quiet_kept n ue bearer units u [] quiet = tt
quiet_kept n ue bearer units u (p ∷ ps) quiet =
    one_kept u p p.load refl (owned_to n ue bearer units p) quiet.0
    (orders_up n ue bearer units (up.run u (order_up u p (owned_to n ue bearer units p))) ps)
    (quiet_kept n ue bearer units (up.run u (order_up u p (owned_to n ue bearer units p))) ps quiet.1)
