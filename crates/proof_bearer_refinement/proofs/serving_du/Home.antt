-- A DU that takes what stands next on the radio up carries it to the context that the terminal is at.
use Rattle.std.proofs.Common.{◌≡◌, ℕ, ◌==◌, Bool, true, ◌&&◌, List, [], ◌∷◌, ◌++◌, map, Option, Some, None, refl, sym, ap, subst, ◌∙◌, arith}
use Rattle.std.specs.Prelude.{if◌then◌else◌}
use Rattle.std.proofs.lemmas.List.{append-nil}
use Rattle.std.specs.Ordering.{is_eq}
use Rattle.std.specs.Cmp.{tied_itself}
use Rattle.gnb_types.specs.declared.names.Gnb.{Gnb}
use Rattle.gnb_types.specs.declared.names.NodeId.{NodeId}
use Rattle.gnb_types.specs.declared.names.NodeId.TheVariants.{Du as du_id}
use Rattle.gnb_types.specs.declared.names.SnBits.{SnBits}
use Rattle.gnb_types.specs.declared.names.UeId.{UeId}
use Rattle.gnb_types.specs.declared.names.BearerId.{BearerId}
use Rattle.gnb_types.specs.declared.names.Dir.TheVariants.{Ul}
use Rattle.gnb_types.specs.declared.keys.EntityKey.{EntityKey}
use Rattle.gnb_types.proofs.OrderLemmas.{ue_total, bearer_total}
use Rattle.message_types.specs.declared.rrc.Token.{Token}
use Rattle.scenario_text.specs.declared.event.Event.{Event}
use Rattle.unit_defs.specs.Ways.{Message, Pdu, packet_pdu, report_pdu, uplink, Input, radio_input, Output}
use Rattle.unit_defs.specs.CuUpRecords.{CuUpBearer, TunnelKind, f1u_uplink}
use Rattle.unit_defs.specs.CuUpBearers.{is_one_of}
use Rattle.run_defs.specs.Units.{cu_up_of, du_of, with_du}
use Rattle.run_defs.specs.Written.{written_put}
use Rattle.run_defs.specs.States.{sn_of, radio_of}
use Rattle.run_defs.specs.Runs.{Reading, plain_world, plain_way, content_of}
use Rattle.proof_run_steps.specs.steps.Causes.{by_air}
use Rattle.proof_run_steps.proofs.facts.Steps.{nth_has}
use Rattle.proof_node_orders.specs.du_inputs.Changes.{DuModel, model_of as du_model_of}
use Rattle.proof_node_orders.specs.du_inputs.Puts.{OnTunnel, is_of, on_uplink, of_model}
use Rattle.proof_node_orders.specs.du_puts.Inputs.{ups_by}
use Rattle.proof_node_orders.specs.du_steps.Steps.{order_of}
use Rattle.bearer_defs.specs.uplink_defs.Models.{Model, uplink_tunnel}
use Rattle.bearer_defs.specs.uplink_defs.Orders as up
use Rattle.bearer_defs.specs.uplink_defs.Assumptions as guards
use Rattle.proof_cu_up_orders.specs.context_orders.Orders.{CuUpModel}
use Rattle.proof_cu_up_orders.specs.bearer_orders.Up as ups
use Rattle.proof_cu_up_orders.specs.orders.Up.{IsUp}
use Rattle.law_tunnels_are_owned.specs.owner_facts.Owned.{ends_of, AreOwned}
use Rattle.proof_bearer_refinement.specs.run_unit_inputs.Happenings.{DuRecord}
use Rattle.proof_bearer_refinement.specs.run_bearers.Things.{PlainUnits}
use Rattle.proof_bearer_refinement.specs.run_bearers.Bearers.{Numbering, if_of, at_place, contexts_of}
use Rattle.proof_bearer_refinement.specs.refinement_facts.Refinements.{Owned, owned_on}
use Rattle.proof_bearer_refinement.proofs.refinement_facts.Ends.{IsOwner, owner_is}
use Rattle.proof_bearer_refinement.specs.du_puts.Puts.{IsDuStep, LeadsUp, IsAtStation, order_up, AllLead, orders_up, owned_to, puts_of}
use Rattle.proof_bearer_refinement.proofs.du_puts.Apart.{place, IsAt, at_end}
use Rattle.law_terminals_are_isolated.specs.own_steps.Own.{IsActed}
use Rattle.law_terminals_are_isolated.proofs.own_steps.Steps.{Sound}
use Rattle.proof_bearer_refinement.specs.runs.Steps.{Point, IsRefined, DuActs}
use Rattle.proof_bearer_refinement.specs.uplink_radio.Radio.{OnRadio, up_key, IsAtTerminal, StandsNext, IsFrameStep}
use Rattle.proof_bearer_refinement.proofs.uplink_radio.Others.{stands_next, carried_then}
use Rattle.proof_bearer_refinement.proofs.frame_other_units.Beside.{is_beside}
use Rattle.proof_node_orders.specs.terminal_inputs.Inputs.{Models}
use Rattle.proof_bearer_refinement.specs.ue_step.Assumed.{both}
use Rattle.proof_bearer_refinement.specs.serving_du.Home.{ServingDuLeads}
use Rattle.proof_bearer_refinement.specs.runs.Fair.{IsFair}

number_same : (a : ℕ) → (a == a) ≡ true
number_same a = grind arith

-- ---- what the DU puts

of_itself : (ue : UeId) (bearer : BearerId) → is_of ue bearer ue bearer ≡ true
of_itself ue bearer = (λ i. ap is_eq (tied_itself ue_total ue) i && ap is_eq (tied_itself bearer_total bearer) i)

module _ (ue : UeId) (bearer : BearerId) (r : DuRecord) (d : DuModel) (there : du_model_of r ue bearer ≡ Some d) where
  abbrev put_one : Pdu → OnTunnel
  put_one pdu = record { to = d.bearer.up; teid = d.bearer.uplink; load = uplink pdu }

  puts_are : (pdu : Pdu) → ups_by plain_way ue bearer r (radio_input ue bearer Ul pdu (content_of pdu)) ≡ put_one pdu ∷ []
  unfolding ups_by
  puts_are pdu =
      (λ i. of_model (λ e. if is_of ue bearer ue bearer then on_uplink e (uplink pdu) else []) (there i))
      ∙ ap (λ (t : Bool). if t then on_uplink d (uplink pdu) else []) (of_itself ue bearer)

-- ---- where it is an open uplink tunnel of a context, the model has it open

module _ (reading : Reading) (n : Numbering) (ue : UeId) (bearer : BearerId) (sn : SnBits) (quota : ℕ) (p : Point) (refined : IsRefined reading n ue bearer sn quota p)
    (owned : AreOwned p.state.units) where
  open_there : (x teid : ℕ) (node : NodeId) → owned_on n ue bearer p.state.units node teid ≡ Some (record { context = x; kind = f1u_uplink })
      → guards.IsOpen (p.up.members x) (uplink_tunnel teid)
  open_there x teid node is =
      ap (λ (teids : List ℕ). is_one_of teids teid) (ap (λ (b : CuUpBearer). b.uplinks) there.bearer)
      ∙ ap (λ (kind : TunnelKind). is_one_of (ends_of kind its.part.bearer) teid) (ap (λ (o : Owned). o.kind) at.is) ∙ its.has
    where
      at : IsAt n ue bearer p.state.units node teid (record { context = x; kind = f1u_uplink })
      at = at_end n ue bearer p.state.units node teid (record { context = x; kind = f1u_uplink }) is

      its : IsOwner (cu_up_of p.state.units at.gnb at.number) ue bearer teid at.owner
      its = owner_is (cu_up_of p.state.units at.gnb at.number) (owned.0 at.gnb at.number) ue bearer teid at.owner at.found at.own

      place_is : n.place_of x ≡ Some (place at.gnb at.number at.owner.context)
      place_is = ap n.place_of (ap (λ (o : Owned). o.context) at.is) ∙ n.found (place at.gnb at.number at.owner.context)

      context_is : contexts_of n ue bearer p.state.units x ≡ Some its.part
      context_is =
          ap (at_place ue bearer p.state.units) place_is ∙ ap (if_of at.owner.context) its.there
          ∙ ap (λ (t : Bool). if t then Some its.part else None) (ap (λ (k : ℕ). k == at.owner.context) its.context ∙ number_same at.owner.context)

      there : IsUp (p.up.members x) its.part
      there = subst (λ (c : Option CuUpModel). ups.IsIn (p.up.members x) c) context_is (refined.up x)

-- ---- one order of what is put

one_order : (n : Numbering) (ue : UeId) (bearer : BearerId) (units : PlainUnits) (u : Model) (one : OnTunnel) (o : Owned)
    → owned_to n ue bearer units one ≡ Some o → orders_up n ue bearer units u (one ∷ []) ≡ order_of o.context u one.teid one.load
unfolding orders_up
one_order n ue bearer units u one o is =
    ap (λ (w : Option Owned). order_up u one w ++ []) is ∙ append-nil (order_of o.context u one.teid one.load)

at_station : (station : ℕ) (pdu : Pdu) → IsAtStation station (uplink pdu) station
at_station station (packet_pdu count packet) = refl
at_station station (report_pdu fmc bits) = tt

kept_one : (u : Model) (x teid : ℕ) (pdu : Pdu) → StandsNext u pdu → guards.IsOpen (u.members u.station) (uplink_tunnel teid)
    → guards.NoEnd ((u.members u.station).uplink teid) → guards.AreKept u (order_of x u teid (uplink pdu))
unfolding guards.AreKept guards.IsReady guards.IsAssumed
kept_one u x teid (packet_pdu count packet) next is_open no_end = (next, (is_open, no_end), tt)
kept_one u x teid (report_pdu fmc bits) next is_open no_end = tt

module _ (reading : Reading) (n : Numbering) (ue : UeId) (bearer : BearerId) (sn : SnBits) (quota : ℕ) (p q : Point) (event : Event)
    (refinement : IsAtTerminal reading ue bearer p.state (both p)) (gnb : Gnb) (number : ℕ) (item : OnRadio) (input : Input Token Pdu)
    (outputs : List (Output (Message Token) Pdu)) (left : DuRecord) (fair : IsFair p.state) (refined : IsRefined reading n ue bearer sn quota p)
    (acted : IsActed (plain_world reading) event p.state (by_air (up_key ue bearer) (du_id gnb number) item) (map (written_put (sn_of p.state)) outputs)
    (with_du p.state.units gnb number left))
    (step : IsDuStep reading p.state q.state gnb number (by_air (up_key ue bearer) (du_id gnb number) item) input outputs left)
    (leads : ServingDuLeads n ue bearer p gnb number) (down_is : q.down ≡ p.down)
    (up_is : q.up ≡ up.run p.up (orders_up n ue bearer p.state.units p.up (puts_of ue bearer p.state.units gnb number input))) where
  abbrev key : EntityKey
  key = up_key ue bearer

  abbrev says : Pdu
  says = item.content.says

  abbrev station : ℕ
  station = p.up.station

  abbrev teid : ℕ
  teid = leads.part.bearer.uplink

  abbrev one : OnTunnel
  one = record { to = leads.part.bearer.up; teid = teid; load = uplink says }

  sound : Sound p.state
  sound = fair.sound

  key_is : item.key ≡ key
  key_is = nth_has (λ (x : OnRadio). x.key ≡ key) (radio_of p.state key).items (radio_of p.state key).carried item (sound.radios key) acted.stands.1

  input_is : input ≡ radio_input ue bearer Ul says (content_of says)
  input_is =
      let both_are : Some (radio_input item.key.ue item.key.bearer item.key.dir says (content_of says)) ≡ Some input = step.given in
      let same : input ≡ radio_input item.key.ue item.key.bearer item.key.dir says (content_of says) = cc in
      same ∙ ap (λ (k : EntityKey). radio_input k.ue k.bearer k.dir says (content_of says)) key_is

  puts_one : puts_of ue bearer p.state.units gnb number input ≡ one ∷ []
  puts_one =
      ap (ups_by plain_way ue bearer (du_of p.state.units gnb number)) input_is
      ∙ puts_are ue bearer (du_of p.state.units gnb number) leads.part leads.there says

  orders_are : orders_up n ue bearer p.state.units p.up (puts_of ue bearer p.state.units gnb number input) ≡ order_of station p.up teid (uplink says)
  orders_are =
      ap (orders_up n ue bearer p.state.units p.up) puts_one
      ∙ one_order n ue bearer p.state.units p.up one (record { context = station; kind = f1u_uplink }) leads.leads

  next : StandsNext p.up says
  next = stands_next reading p.state q.state ue bearer event (both p) refinement (du_id gnb number) item acted.stands

  pub acts : DuActs reading n ue bearer sn quota p q
  acts = record {
    gnb = gnb;
    number = number;
    cause = by_air key (du_id gnb number) item;
    input = input;
    outputs = outputs;
    left = left;
    acts = step;
    leads = subst (λ (ps : List OnTunnel). AllLead n ue bearer p.state.units station ps) (sym puts_one)
        (subst (λ (o : Option Owned). LeadsUp station (uplink says) o) (sym leads.leads) (refl, at_station station says), tt);
    asks = subst (λ (os : List up.ModelStep). guards.AreKept p.up os) (sym orders_are)
        (kept_one p.up station teid says next
        (open_there reading n ue bearer sn quota p refined sound.owned station teid leads.part.bearer.up leads.leads) leads.no_end);
    down = down_is;
    up = up_is;
  }

  pub refined_then : IsAtTerminal reading ue bearer q.state (both q)
  refined_then =
      let beside : IsFrameStep reading p.state q.state ue bearer (by_air key (du_id gnb number) item) (map (written_put (sn_of p.state)) outputs)
      (with_du p.state.units gnb number left)
      = is_beside reading ue bearer p.state q.state event (by_air key (du_id gnb number) item) (map (written_put (sn_of p.state)) outputs)
      (with_du p.state.units gnb number left) step.lines fair acted tt step.goes_on in
      let up_so : q.up ≡ up.run p.up (order_of station p.up teid (uplink says)) = up_is ∙ ap (up.run p.up) orders_are in
      subst (λ (b : Models). IsAtTerminal reading ue bearer q.state b) (λ i. record { up = sym up_so i; down = sym down_is i })
      (carried_then reading p.state q.state ue bearer event (both p) refinement (du_id gnb number) item acted.stands station teid
      (map (written_put (sn_of p.state)) outputs) (with_du p.state.units gnb number left) beside)
