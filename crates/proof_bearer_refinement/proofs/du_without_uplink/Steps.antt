-- A tunnel of the bearer that a DU puts on is one of its uplinks, in a fair state.
use Rattle.std.proofs.Common.{◌≡◌, ℕ, ◌==◌, Bool, true, false, ◌&&◌, List, [], ◌∷◌, ◌++◌, map, Option, Some, None, refl, sym, ap, subst, ◌∙◌}
use Rattle.std.specs.Prelude.{if◌then◌else◌, nat_lt}
use Rattle.std.specs.List.{AllByRecursion}
use Rattle.std.specs.Ordering.{nat_cmp, eq_by_cmp, is_eq}
use Rattle.std.specs.Cmp.{Equal-is, tied_itself}
use Rattle.gnb_types.specs.declared.names.Gnb.{Gnb}
use Rattle.gnb_types.specs.declared.names.NodeId.{NodeId}
use Rattle.gnb_types.specs.declared.names.NodeId.TheVariants.{CuCp, CuUp as up_id, Du as du_id, Core, Ue}
use Rattle.gnb_types.specs.declared.names.SnBits.{SnBits}
use Rattle.gnb_types.specs.declared.names.UeId.{UeId}
use Rattle.gnb_types.specs.declared.names.BearerId.{BearerId}
use Rattle.gnb_types.specs.declared.names.Dir.{Dir}
use Rattle.gnb_types.specs.declared.names.Dir.TheVariants.{Dl, Ul}
use Rattle.gnb_types.specs.declared.keys.EntityKey.{EntityKey}
use Rattle.gnb_types.specs.Orders.{ue_cmp, bearer_cmp, entity_cmp}
use Rattle.gnb_types.proofs.OrderLemmas.{ue_exact, bearer_exact, entity_total}
use Rattle.tables.specs.Tables.{find}
use Rattle.message_types.specs.declared.rrc.Token.{Token}
use Rattle.scenario_text.specs.declared.event.Event.{Event}
use Rattle.unit_defs.specs.Ways.{Message, Pdu, Load, control, packet, radio, deliver, dropped, held, opened, closed, failed, no, Input, control_input, packet_input, radio_input, confirm_input, offer_input, tick_input, order_input, Output, Answer}
use Rattle.unit_defs.specs.CuUpRecords.{TunnelKind, n3, f1u_uplink, forwarding_down, forwarding_up}
use Rattle.run_defs.specs.Lines.{RunLine}
use Rattle.run_defs.specs.Units.{cu_up_of, du_of, with_du}
use Rattle.run_defs.specs.Written.{written_put}
use Rattle.run_defs.specs.States.{Lengths, sn_of, radio_of}
use Rattle.run_defs.specs.Conditions.{receiver_by}
use Rattle.run_defs.specs.Runs.{Reading, plain_world, plain_way, input_of, taken_of, content_of}
use Rattle.proof_run_steps.specs.steps.Causes.{by_order, by_tick, by_octets, by_octets_on, by_attach, by_release, by_offer, by_item, by_air, by_ack, by_control_message, Stands, node_of, given_of, count_of}
use Rattle.proof_run_steps.proofs.steps.Frames.{HasUnits, units_by, act_units}
use Rattle.proof_run_steps.specs.teids.Given.{GiveOnce, below}
use Rattle.proof_run_steps.proofs.teids.Runs.{give_same}
use Rattle.proof_unit_steps.specs.tunnel_names.Names.{by_book}
use Rattle.proof_unit_steps.specs.tunnels.Units.{NoneIsFree}
use Rattle.law_tunnels_are_owned.specs.tunnel_book.Book.{is_kind, is_up_owner, all_such, book_of}
use Rattle.proof_run_steps.specs.facts.Facts.{PutFits, PutsFit}
use Rattle.law_terminals_are_isolated.specs.own_steps.Own.{IsActed}
use Rattle.proof_run_steps.proofs.facts.Steps.{nth_has}
use Rattle.law_tunnels_are_owned.proofs.run_tunnels.Runs.{Named}
use Rattle.law_tunnels_are_owned.proofs.owner_facts.Owners.{first_of, second_of}
use Rattle.proof_node_orders.specs.du_inputs.Changes.{change_by, model_of}
use Rattle.proof_node_orders.specs.du_inputs.Puts.{OnTunnel, is_of, tunnels_put, of_model, carried_of, Puts}
use Rattle.proof_node_orders.proofs.du_puts.ControlMessages.{input_puts}
use Rattle.bearer_defs.specs.uplink_defs.Orders as up
use Rattle.proof_cu_up_orders.specs.context_orders.Shown.{is_bearer}
use Rattle.proof_bearer_refinement.specs.run_unit_inputs.Happenings.{DuRecord}
use Rattle.proof_bearer_refinement.specs.run_bearers.Things.{PlainUnits}
use Rattle.proof_bearer_refinement.specs.run_bearers.Bearers.{Numbering}
use Rattle.proof_bearer_refinement.specs.refinement_facts.Refinements.{Owned, owned_on}
use Rattle.proof_bearer_refinement.specs.du_puts.Puts.{IsDuStep, LeadsUp, AllLead, orders_up, puts_of}
use Rattle.proof_bearer_refinement.proofs.du_puts.Apart.{on_same, IsAt, at_end}
use Rattle.proof_bearer_refinement.specs.runs.Steps.{Point, DuActs}
use Rattle.proof_bearer_refinement.specs.uplink_radio.Radio.{RunState, RunCause, OnRadio, up_key, Leaves}
use Rattle.proof_bearer_refinement.specs.runs.Fair.{IsFair}
use Rattle.proof_bearer_refinement.proofs.runs.Fair.{named_fit}
use Rattle.proof_bearer_refinement.proofs.du_without_uplink.Quiet.{IsQuietLoad, AreQuiet, IsNotOurs, puts_quiet, at_quiet, quiet_kept}

abbrev Outs : Type 0
Outs = List (Output (Message Token) Pdu)

same_kind : (kind : TunnelKind) → is_kind kind f1u_uplink ≡ true → kind ≡ f1u_uplink
same_kind f1u_uplink is = refl
same_kind n3 is = absurd cc
same_kind forwarding_down is = absurd cc
same_kind forwarding_up is = absurd cc

third_of : (a b c : Bool) → (a && b && c) ≡ true → c ≡ true
third_of true true c is = is
third_of true false c is = absurd cc
third_of false b c is = absurd cc

-- ---- the kind of a tunnel that a DU puts on

module _ (w : PlainUnits) (none : NoneIsFree (by_book (book_of w))) (n : Numbering) (ue : UeId) (bearer : BearerId) (lengths : Lengths) where
  -- an output for the bearer goes on one of its uplinks
  abbrev IsUp : Output (Message Token) Pdu → Type 0
  IsUp (packet to teid who q dir tag load) =
      is_bearer ue bearer who q ≡ true → (o : Owned) → owned_on n ue bearer w to teid ≡ Some o → o.kind ≡ f1u_uplink
  IsUp output = Unit {0}

  of_book : (g : Gnb) (k teid : ℕ) (who : UeId) (q : BearerId) → (by_book (book_of w)).up g k f1u_uplink who q teid → (o : Owned)
      → owned_on n ue bearer w (up_id g k) teid ≡ Some o → o.kind ≡ f1u_uplink
  of_book g k teid who q named o is =
      let at : IsAt n ue bearer w (up_id g k) teid o = at_end n ue bearer w (up_id g k) teid o is in
      let same_gnb : g ≡ at.gnb = (let e : up_id g k ≡ up_id at.gnb at.number = at.node_is in cc) in
      let same_number : k ≡ at.number = (let e : up_id g k ≡ up_id at.gnb at.number = at.node_is in cc) in
      let found : find nat_cmp (cu_up_of w g k).tunnels teid ≡ Some at.owner
      = (λ i. find nat_cmp (cu_up_of w (same_gnb i) (same_number i)).tunnels teid) ∙ at.found in
      let owner : is_up_owner f1u_uplink who q at.owner ≡ true
      = ap (all_such (is_up_owner f1u_uplink who q)) (sym found)
      ∙ second_of (nat_lt teid (below (cu_up_of w g k).next_teid)) (all_such (is_up_owner f1u_uplink who q) (find nat_cmp (cu_up_of w g k).tunnels teid)) named in
      ap (λ (x : Owned). x.kind) at.is
      ∙ same_kind at.owner.kind (third_of (at.owner.ue.0 == who.0) (at.owner.bearer.0 == q.0) (is_kind at.owner.kind f1u_uplink) owner)

  one_up : (gnb : Gnb) (number : ℕ) (node : NodeId) → node ≡ du_id gnb number → (taken : Option ℕ) (output : Output (Message Token) Pdu)
      → PutFits (Named w none) node taken (written_put lengths output) → IsUp output
  one_up gnb number (du_id h m) at taken (packet (up_id g k) teid who q dir tag load) p = λ own o is. of_book g k teid who q p.1 o is
  one_up gnb number (du_id h m) at taken (packet (CuCp g) teid who q dir tag load) p = λ own o is. absurd cc
  one_up gnb number (du_id h m) at taken (packet (du_id g k) teid who q dir tag load) p = λ own o is. absurd cc
  one_up gnb number (du_id h m) at taken (packet Core teid who q dir tag load) p = λ own o is. absurd cc
  one_up gnb number (du_id h m) at taken (packet (Ue k) teid who q dir tag load) p = λ own o is. absurd cc
  one_up gnb number (CuCp g) at taken (packet to teid who q dir tag load) p = absurd cc
  one_up gnb number (up_id g k) at taken (packet to teid who q dir tag load) p = absurd cc
  one_up gnb number Core at taken (packet to teid who q dir tag load) p = absurd cc
  one_up gnb number (Ue k) at taken (packet to teid who q dir tag load) p = absurd cc
  one_up gnb number node at taken (control to u m) p = tt
  one_up gnb number node at taken (radio u b dir epoch tag pdu) p = tt
  one_up gnb number node at taken (deliver u b dir count x) p = tt
  one_up gnb number node at taken (dropped reason) p = tt
  one_up gnb number node at taken (held reason) p = tt
  one_up gnb number node at taken (opened teid) p = tt
  one_up gnb number node at taken (closed teid) p = tt
  one_up gnb number node at taken (failed u cause) p = tt
  one_up gnb number node at taken (no reason) p = tt

  all_up : (gnb : Gnb) (number : ℕ) (node : NodeId) → node ≡ du_id gnb number → (taken : Option ℕ) (outputs : Outs)
      → PutsFit (Named w none) node taken (map (written_put lengths) outputs) → AllByRecursion IsUp outputs
  all_up gnb number node at taken [] p = tt
  all_up gnb number node at taken (output ∷ outputs) p = (one_up gnb number node at taken output p.0, all_up gnb number node at taken outputs p.1)

  -- so all that is put for the bearer leads up
  module _ (units : PlainUnits) (ups : w.ups ≡ units.ups) (station : ℕ) where
    one_leads : (to : NodeId) (teid : ℕ) (load : Load Pdu) → ((o : Owned) → owned_on n ue bearer w to teid ≡ Some o → o.kind ≡ f1u_uplink)
        → IsQuietLoad load → LeadsUp station load (owned_on n ue bearer units to teid)
    one_leads to teid load kinds quiet = by (owned_on n ue bearer units to teid) refl
      where
        by : (o : Option Owned) → owned_on n ue bearer units to teid ≡ o → LeadsUp station load o
        by None is = tt
        by (Some o) is = (kinds o (on_same n ue bearer units w ups to teid ∙ is), at_quiet station o.context load quiet)

    all_lead : (outputs : Outs) → AllByRecursion IsUp outputs → AreQuiet (tunnels_put ue bearer outputs)
        → AllLead n ue bearer units station (tunnels_put ue bearer outputs)
    unfolding tunnels_put
    all_lead [] kinds quiet = tt
    all_lead (packet to teid who q dir tag load ∷ outputs) kinds quiet =
        by (is_of ue bearer who q) refl quiet (λ rest. all_lead outputs kinds.1 rest)
      where
        by : (t : Bool) → is_of ue bearer who q ≡ t
            → AreQuiet ((if t then record { to = to; teid = teid; load = load } ∷ [] else []) ++ tunnels_put ue bearer outputs)
            → (AreQuiet (tunnels_put ue bearer outputs) → AllLead n ue bearer units station (tunnels_put ue bearer outputs))
            → AllLead n ue bearer units station ((if t then record { to = to; teid = teid; load = load } ∷ [] else []) ++ tunnels_put ue bearer outputs)
        by true own all more = (one_leads to teid load (kinds.0 own) all.0, more all.1)
        by false own all more = more all
    all_lead (control to u m ∷ outputs) kinds quiet = all_lead outputs kinds.1 quiet
    all_lead (radio u b dir epoch tag pdu ∷ outputs) kinds quiet = all_lead outputs kinds.1 quiet
    all_lead (deliver u b dir count x ∷ outputs) kinds quiet = all_lead outputs kinds.1 quiet
    all_lead (dropped reason ∷ outputs) kinds quiet = all_lead outputs kinds.1 quiet
    all_lead (held reason ∷ outputs) kinds quiet = all_lead outputs kinds.1 quiet
    all_lead (opened teid ∷ outputs) kinds quiet = all_lead outputs kinds.1 quiet
    all_lead (closed teid ∷ outputs) kinds quiet = all_lead outputs kinds.1 quiet
    all_lead (failed u cause ∷ outputs) kinds quiet = all_lead outputs kinds.1 quiet
    all_lead (no reason ∷ outputs) kinds quiet = all_lead outputs kinds.1 quiet

-- ---- the step

module _ (reading : Reading) (n : Numbering) (ue : UeId) (bearer : BearerId) (sn : SnBits) (quota : ℕ) (p q : Point) (event : Event) (gnb : Gnb) (number : ℕ)
    (cause : RunCause) (input : Input Token Pdu) (outputs : Outs) (left : DuRecord) (fair : IsFair p.state) (fair_then : IsFair q.state)
    (acted : IsActed (plain_world reading) event p.state cause (map (written_put (sn_of p.state)) outputs) (with_du p.state.units gnb number left))
    (step : IsDuStep reading p.state q.state gnb number cause input outputs left) (leaves : Leaves (up_key ue bearer) cause) (down_is : q.down ≡ p.down)
    (up_is : q.up ≡ up.run p.up (orders_up n ue bearer p.state.units p.up (puts_of ue bearer p.state.units gnb number input))) where
  abbrev s : RunState
  s = p.state

  abbrev after : PlainUnits
  after = with_du p.state.units gnb number left

  units_then : q.state.units ≡ after
  units_then =
      subst (HasUnits (plain_world reading) {X = RunLine (Message Token)} (units_by (plain_world reading) cause after)) step.goes_on
      (act_units (plain_world reading) cause (map (written_put (sn_of s)) outputs) after s)
      ∙ by cause step.node
    where
      by : (c : RunCause) → node_of c ≡ du_id gnb number → units_by (plain_world reading) c after ≡ after
      by (by_attach plan) at = absurd cc
      by (by_order node order) at = refl
      by (by_tick node) at = refl
      by (by_octets from w octets) at = refl
      by (by_octets_on end octets) at = refl
      by (by_release g who) at = refl
      by (by_offer who b sdu) at = refl
      by (by_item end item rest) at = refl
      by (by_air from home item) at = refl
      by (by_ack from home item rest) at = refl
      by (by_control_message k l w) at = refl

  abbrev w : PlainUnits
  w = q.state.units

  none : NoneIsFree (by_book (book_of w))
  none = fair_then.none

  then_given : GiveOnce after w
  then_given = subst (λ (x : PlainUnits). GiveOnce after x) (sym units_then) (give_same after)

  fits : PutsFit (Named w none) (node_of cause) (count_of cause) (map (written_put (sn_of s)) outputs)
  fits = named_fit reading s event cause (map (written_put (sn_of s)) outputs) after fair acted w none then_given

  listed : tunnels_put ue bearer outputs ≡ puts_of ue bearer s.units gnb number input
  unfolding Puts
  listed =
      let r : DuRecord = du_of s.units gnb number in
      (subst (λ (a : Answer (Message Token) Pdu DuRecord). Puts ue bearer (puts_of ue bearer s.units gnb number input)
      (of_model (carried_of (change_by plain_way ue bearer r input)) (model_of r ue bearer)) a) step.answers
      (input_puts plain_way ue bearer r input ((fair.sound.owned.1 gnb number).1 ue))).0

  -- ---- it isn't a PDU of the bearer's radio up

  of_other : (from : EntityKey) → from.dir ≡ Ul → eq_by_cmp entity_cmp (up_key ue bearer) from ≡ false → is_of ue bearer from.ue from.bearer ≡ false
  of_other from up_dir apart = by (is_of ue bearer from.ue from.bearer) refl
    where
      by : (t : Bool) → is_of ue bearer from.ue from.bearer ≡ t → t ≡ false
      by false e = refl
      by true e =
          let same_ue : ue ≡ from.ue
          = ue_exact ue from.ue ((Equal-is (ue_cmp ue from.ue)).0 (first_of (eq_by_cmp ue_cmp ue from.ue) (eq_by_cmp bearer_cmp bearer from.bearer) e)) in
          let same_bearer : bearer ≡ from.bearer
          = bearer_exact bearer from.bearer
          ((Equal-is (bearer_cmp bearer from.bearer)).0 (second_of (eq_by_cmp ue_cmp ue from.ue) (eq_by_cmp bearer_cmp bearer from.bearer) e)) in
          let same : up_key ue bearer ≡ from = (λ i. record { ue = same_ue i; bearer = same_bearer i; dir = sym up_dir i }) in
          let never : true ≡ false
          = sym (ap is_eq (tied_itself entity_total (up_key ue bearer))) ∙ ap (λ (k : EntityKey). eq_by_cmp entity_cmp (up_key ue bearer) k) same ∙ apart in
          absurd cc

  aired : (from : EntityKey) (home : NodeId) (item : OnRadio) (dir : Dir) → from.dir ≡ dir → receiver_by dir from.ue home ≡ du_id gnb number
      → item.key ≡ from → eq_by_cmp entity_cmp (up_key ue bearer) from ≡ false
      → IsNotOurs ue bearer (radio_input item.key.ue item.key.bearer item.key.dir item.content.says (content_of item.content.says))
  aired from home item Dl is node own apart = absurd cc
  aired from home item Ul is node own apart =
      subst (λ (k : EntityKey). IsNotOurs ue bearer (radio_input k.ue k.bearer k.dir item.content.says (content_of item.content.says))) (sym own)
      (subst (λ (d : Dir). IsNotOurs ue bearer (radio_input from.ue from.bearer d item.content.says (content_of item.content.says))) (sym is) (of_other from is apart))

  so : (i : Input Token Pdu) → Some i ≡ Some input → IsNotOurs ue bearer i → IsNotOurs ue bearer input
  so i same h = let is : i ≡ input = cc in subst (λ (j : Input Token Pdu). IsNotOurs ue bearer j) is h

  not_ours : (c : RunCause) → node_of c ≡ du_id gnb number → input_of reading (given_of c) ≡ Some input → Stands event s c → Leaves (up_key ue bearer) c
      → IsNotOurs ue bearer input
  not_ours (by_order node order) at given stands far = so (order_input order) given tt
  not_ours (by_tick node) at given stands far = so tick_input given tt
  not_ours (by_octets from to octets) at given stands far = absurd cc
  not_ours (by_octets_on end octets) at given stands far = absurd cc
  not_ours (by_attach plan) at given stands far = absurd cc
  not_ours (by_release g who) at given stands far = absurd cc
  not_ours (by_offer who b sdu) at given stands far = so (offer_input who b sdu) given tt
  not_ours (by_item end item rest) at given stands far = so (packet_input end.teid (taken_of item.content.says)) given tt
  not_ours (by_air from home item) at given stands far =
      so (radio_input item.key.ue item.key.bearer item.key.dir item.content.says (content_of item.content.says)) given
      (aired from home item from.dir refl at
      (nth_has (λ (x : OnRadio). x.key ≡ from) (radio_of s from).items (radio_of s from).carried item (fair.sound.radios from) stands.1) far)
  not_ours (by_ack from home item rest) at given stands far =
      so (confirm_input item.key.ue item.key.bearer item.key.dir item.content.says (content_of item.content.says)) given tt
  not_ours (by_control_message k l to) at given stands far = so (control_input l.from l.message) given tt

  pub quiet : AreQuiet (puts_of ue bearer s.units gnb number input)
  quiet = puts_quiet ue bearer (du_of s.units gnb number) input (not_ours cause step.node step.given acted.stands leaves)

  leads : AllLead n ue bearer s.units p.up.station (puts_of ue bearer s.units gnb number input)
  leads =
      subst (λ (ps : List OnTunnel). AllLead n ue bearer s.units p.up.station ps) listed
      (all_lead w none n ue bearer (sn_of s) s.units (ap (λ (u : PlainUnits). u.ups) units_then) p.up.station outputs
      (all_up w none n ue bearer (sn_of s) gnb number (node_of cause) step.node (count_of cause) outputs fits)
      (subst (λ (ps : List OnTunnel). AreQuiet ps) (sym listed) quiet))

  pub acts : DuActs reading n ue bearer sn quota p q
  acts = record {
    gnb = gnb;
    number = number;
    cause = cause;
    input = input;
    outputs = outputs;
    left = left;
    acts = step;
    leads = leads;
    asks = quiet_kept n ue bearer s.units p.up (puts_of ue bearer s.units gnb number input) quiet;
    down = down_is;
    up = up_is;
  }
