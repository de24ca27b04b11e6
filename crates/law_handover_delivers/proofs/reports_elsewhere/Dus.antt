-- A DU reports what was confirmed on the radio down, and passes on what comes up.
use Rattle.std.proofs.Common.{◌≡◌, ℕ, Bool, true, false, ◌||◌, List, [], ◌∷◌, ◌++◌, map, Option, Some, None, refl, sym, ap, subst, ◌∙◌}
use Rattle.std.specs.Prelude.{if◌then◌else◌}
use Rattle.std.specs.List.{AllByRecursion}
use Rattle.std.specs.Ordering.{eq_by_cmp}
use Rattle.std.specs.Cmp.{Equal-is}
use Rattle.gnb_types.specs.declared.names.Gnb.{Gnb}
use Rattle.gnb_types.specs.declared.names.NodeId.{NodeId}
use Rattle.gnb_types.specs.declared.names.NodeId.TheVariants.{Du as du_id}
use Rattle.gnb_types.specs.declared.names.UeId.{UeId}
use Rattle.gnb_types.specs.declared.names.BearerId.{BearerId}
use Rattle.gnb_types.specs.declared.names.Dir.{Dir}
use Rattle.gnb_types.specs.declared.names.Dir.TheVariants.{Dl, Ul}
use Rattle.gnb_types.specs.declared.keys.EntityKey.{EntityKey}
use Rattle.gnb_types.specs.Orders.{ue_cmp, bearer_cmp, entity_cmp}
use Rattle.gnb_types.proofs.OrderLemmas.{ue_exact, bearer_exact, entity_exact}
use Rattle.message_types.specs.declared.rrc.Token.{Token}
use Rattle.scenario_text.specs.declared.event.Event.{Event}
use Rattle.unit_defs.specs.Ways.{Message, Pdu, packet_pdu, report_pdu, uplink, status, control, packet, radio, deliver, dropped, held, opened, closed, failed, no, Input, control_input, packet_input, radio_input, confirm_input, offer_input, tick_input, order_input, Output, Answer}
use Rattle.unit_defs.specs.Du.{missing, is_missing}
use Rattle.run_defs.specs.Units.{du_of, with_du}
use Rattle.run_defs.specs.Written.{written_put}
use Rattle.run_defs.specs.States.{Lengths, sn_of, entity, radio_of}
use Rattle.run_defs.specs.Runs.{Reading, plain_world, plain_way, input_of, taken_of, content_of}
use Rattle.proof_run_steps.specs.steps.Causes.{by_order, by_tick, by_octets, by_octets_on, by_attach, by_release, by_offer, by_item, by_air, by_ack, by_control_message, Stands, node_of, given_of, count_of}
use Rattle.proof_run_steps.specs.facts.Facts.{PutsFit}
use Rattle.proof_run_steps.specs.facts.UnitFacts.{written_facts}
use Rattle.law_terminals_are_isolated.specs.own_steps.Own.{IsActed}
use Rattle.proof_run_steps.proofs.facts.Steps.{nth_has}
use Rattle.law_terminals_are_isolated.proofs.own_steps.Steps.{Sound}
use Rattle.law_tunnels_are_owned.proofs.owner_facts.Owners.{first_of, second_of}
use Rattle.law_tunnels_are_owned.proofs.link_items.Names.{link_items}
use Rattle.proof_run_steps.specs.law_run_links.Own.{HoldTheirOwn}
use Rattle.proof_bearer_refinement.specs.run_unit_inputs.Happenings.{DuRecord}
use Rattle.proof_node_orders.specs.du_inputs.Changes.{DuModel, Change, takes, renews, sets_up, ends, stays, model_of, change_by}
use Rattle.proof_node_orders.specs.du_inputs.Puts.{OnTunnel, is_of, on_uplink, of_number, of_model, of_change, tunnels_put, carried_of, Puts}
use Rattle.proof_node_orders.specs.du_puts.Inputs.{ups_by}
use Rattle.proof_node_orders.proofs.du_puts.ControlMessages.{input_puts}
use Rattle.proof_bearer_refinement.specs.du_puts.Puts.{IsDuStep}
use Rattle.proof_run_steps.specs.radio_steps.Radios.{on_air}
use Rattle.proof_bearer_refinement.specs.uplink_radio.Radio.{RunState, RunCause, OnRadio, up_key}
use Rattle.proof_bearer_refinement.specs.downlink_radio.Down.{down_key}
use Rattle.proof_bearer_refinement.specs.carried_was_received.Known.{WasBelow, AreKnown}
use Rattle.proof_bearer_refinement.specs.runs.Fair.{IsFair}
use Rattle.proof_bearer_refinement.proofs.carried_was_received.Steps.{acked_known}
use Rattle.law_handover_delivers.specs.report_links.Reports.{PduIsTrue, LoadIsTrue, RadioIsTrue, ReportsAreTrue, PutsAreTrue}
use Rattle.law_handover_delivers.proofs.report_links.Airs.{told_then}
use Rattle.proof_bearer_refinement.proofs.runs.Fair.{puts_fit}

abbrev Outs : Type 0
Outs = List (Output (Message Token) Pdu)

module _ (ue : UeId) (bearer : BearerId) (deliv : ℕ) where
  abbrev AllAreTrue : List OnTunnel → Type 0
  AllAreTrue ps = AllByRecursion (λ (p : OnTunnel). LoadIsTrue deliv p.load) ps

  -- ---- what a DU puts on tunnels, by its input

  abbrev InputIsTrue : Input Token Pdu → Type 0
  InputIsTrue (radio_input other q Ul pdu content) = is_of ue bearer other q ≡ true → PduIsTrue deliv pdu
  InputIsTrue (confirm_input other q Dl pdu content) = is_of ue bearer other q ≡ true → WasBelow deliv pdu
  InputIsTrue input = Unit {0}

  model_tells : (f : DuModel → List OnTunnel) (o : Option DuModel) → ((part : DuModel) → AllAreTrue (f part)) → AllAreTrue (of_model f o)
  model_tells f None each = tt
  model_tells f (Some part) each = each part

  change_tells : (change : Change) (part : DuModel) → AllAreTrue (of_change {M = Message Token} {C = Token} plain_way change part)
  change_tells (takes f) part = by (is_missing plain_way part.bearer f.number || f.poll)
    where
      by : (t : Bool) → AllAreTrue (if t then on_uplink part (status (missing plain_way part.bearer f.number) None) else [])
      by true = (tt, tt)
      by false = tt
  change_tells ends part = (tt, tt)
  change_tells stays part = tt
  change_tells (renews epoch teid) part = tt
  change_tells (sets_up other) part = tt

  number_tells : (pdu : Pdu) (part : DuModel) → WasBelow deliv pdu → AllAreTrue (of_number (plain_way.number part.sn pdu) part)
  number_tells (packet_pdu count sdu) part was = (was, tt)
  number_tells (report_pdu fmc bits) part was = tt

  if_tells : (t : Bool) (ps : List OnTunnel) → (t ≡ true → AllAreTrue ps) → AllAreTrue (if t then ps else [])
  if_tells true ps all = all refl
  if_tells false ps all = tt

  ups_tell : (r : DuRecord) (input : Input Token Pdu) → InputIsTrue input → AllAreTrue (ups_by plain_way ue bearer r input)
  unfolding ups_by
  ups_tell r (radio_input other q Ul pdu content) told =
      model_tells (λ part. if is_of ue bearer other q then on_uplink part (uplink pdu) else []) (model_of r ue bearer)
      (λ part. if_tells (is_of ue bearer other q) (on_uplink part (uplink pdu)) (λ own. (told own, tt)))
  ups_tell r (confirm_input other q Dl pdu content) told =
      model_tells (λ part. if is_of ue bearer other q then of_number (plain_way.number part.sn pdu) part else []) (model_of r ue bearer)
      (λ part. if_tells (is_of ue bearer other q) (of_number (plain_way.number part.sn pdu) part) (λ own. number_tells pdu part (told own)))
  ups_tell r (radio_input other q Dl pdu content) told = model_tells _ (model_of r ue bearer) (change_tells (change_by plain_way ue bearer r (radio_input other q Dl pdu content)))
  ups_tell r (confirm_input other q Ul pdu content) told = model_tells _ (model_of r ue bearer) (change_tells (change_by plain_way ue bearer r (confirm_input other q Ul pdu content)))
  ups_tell r (control_input from m) told = model_tells _ (model_of r ue bearer) (change_tells (change_by plain_way ue bearer r (control_input from m)))
  ups_tell r (packet_input teid item) told = model_tells _ (model_of r ue bearer) (change_tells (change_by plain_way ue bearer r (packet_input teid item)))
  ups_tell r (offer_input u b p) told = model_tells _ (model_of r ue bearer) (change_tells (change_by plain_way ue bearer r (offer_input u b p)))
  ups_tell r tick_input told = model_tells _ (model_of r ue bearer) (change_tells (change_by plain_way ue bearer r tick_input))
  ups_tell r (order_input order) told = model_tells _ (model_of r ue bearer) (change_tells (change_by plain_way ue bearer r (order_input order)))

  -- ---- so all that it puts reports only that: on a radio it puts down

  module _ (gnb : Gnb) (number : ℕ) (node : NodeId) (is : node ≡ du_id gnb number) (lengths : Lengths) (taken : Option ℕ) where
    goes_down : (who : UeId) (q : BearerId) (dir : Dir) → dir ≡ Dl → eq_by_cmp entity_cmp (up_key ue bearer) (entity who q dir) ≡ true → ⊥
    goes_down who q dir down refinement =
        let same : up_key ue bearer ≡ entity who q dir = entity_exact (up_key ue bearer) (entity who q dir) ((Equal-is (entity_cmp (up_key ue bearer) (entity who q dir))).0 refinement) in
        let never : Ul ≡ Dl = ap (λ (k : EntityKey). k.dir) same ∙ down in cc

    outputs_tell : (outputs : Outs) → PutsFit (written_facts link_items) (du_id gnb number) taken (map (written_put lengths) outputs)
        → AllAreTrue (tunnels_put ue bearer outputs) → PutsAreTrue ue bearer deliv (map (written_put lengths) outputs)
    unfolding tunnels_put
    outputs_tell [] fit told = tt
    outputs_tell (packet to teid who q dir tag load ∷ outputs) fit told = by (is_of ue bearer who q) refl told (outputs_tell outputs fit.1)
      where
        by : (t : Bool) → is_of ue bearer who q ≡ t
            → AllAreTrue ((if t then record { to = to; teid = teid; load = load } ∷ [] else []) ++ tunnels_put ue bearer outputs)
            → (AllAreTrue (tunnels_put ue bearer outputs) → PutsAreTrue ue bearer deliv (map (written_put lengths) outputs))
            → (is_of ue bearer who q ≡ true → LoadIsTrue deliv load) × PutsAreTrue ue bearer deliv (map (written_put lengths) outputs)
        by true own all more = ((λ refinement. all.0), more all.1)
        by false own all more = ((λ refinement. let never : true ≡ false = sym refinement ∙ own in absurd cc), more all)
    outputs_tell (radio who q dir epoch tag pdu ∷ outputs) fit told =
        ((λ refinement. absurd (goes_down who q dir fit.0.0.1 refinement)), outputs_tell outputs fit.1 told)
    outputs_tell (control to u m ∷ outputs) fit told = (tt, outputs_tell outputs fit.1 told)
    outputs_tell (deliver u b dir count x ∷ outputs) fit told = (tt, outputs_tell outputs fit.1 told)
    outputs_tell (dropped reason ∷ outputs) fit told = (tt, outputs_tell outputs fit.1 told)
    outputs_tell (held reason ∷ outputs) fit told = (tt, outputs_tell outputs fit.1 told)
    outputs_tell (opened teid ∷ outputs) fit told = (tt, outputs_tell outputs fit.1 told)
    outputs_tell (closed teid ∷ outputs) fit told = (tt, outputs_tell outputs fit.1 told)
    outputs_tell (failed u cause ∷ outputs) fit told = (tt, outputs_tell outputs fit.1 told)
    outputs_tell (no reason ∷ outputs) fit told = (tt, outputs_tell outputs fit.1 told)

  -- ---- what it is given stands on a radio

  key_is : (k : EntityKey) (dir : Dir) → k.dir ≡ dir → is_of ue bearer k.ue k.bearer ≡ true → k ≡ entity ue bearer dir
  key_is k dir is own =
      let same_ue : ue ≡ k.ue = ue_exact ue k.ue ((Equal-is (ue_cmp ue k.ue)).0 (first_of (eq_by_cmp ue_cmp ue k.ue) (eq_by_cmp bearer_cmp bearer k.bearer) own)) in
      let same_bearer : bearer ≡ k.bearer
      = bearer_exact bearer k.bearer ((Equal-is (bearer_cmp bearer k.bearer)).0 (second_of (eq_by_cmp ue_cmp ue k.ue) (eq_by_cmp bearer_cmp bearer k.bearer) own)) in
      λ i. record { ue = sym same_ue i; bearer = sym same_bearer i; dir = is i }

  module _ (event : Event) (s : RunState) (own : HoldTheirOwn s) (known : AreKnown (radio_of s (down_key ue bearer)) deliv) (told : ReportsAreTrue ue bearer deliv s) where
    aired : (from : EntityKey) (home : NodeId) (item : OnRadio) → Stands event s (by_air from home item) → (dir : Dir) → item.key.dir ≡ dir
        → InputIsTrue (radio_input item.key.ue item.key.bearer dir item.content.says (content_of item.content.says))
    aired from home item stands Dl is = tt
    aired from home item stands Ul is = λ mine.
        let there : item.key ≡ from
        = nth_has (λ (x : OnRadio). x.key ≡ from) (radio_of s from).items (radio_of s from).carried item (own from) stands.1 in
        let same : from ≡ up_key ue bearer = sym there ∙ key_is item.key Ul is mine in
        nth_has (λ (x : OnRadio). PduIsTrue deliv x.content.says) (radio_of s from).items (radio_of s from).carried item
        (subst (λ (k : EntityKey). RadioIsTrue deliv (on_air s k)) (sym same) told.radio) stands.1

    confirmed : (from : EntityKey) (home : NodeId) (item : OnRadio) (rest : List OnRadio) → Stands event s (by_ack from home item rest) → (dir : Dir)
        → item.key.dir ≡ dir → InputIsTrue (confirm_input item.key.ue item.key.bearer dir item.content.says (content_of item.content.says))
    confirmed from home item rest stands Ul is = tt
    confirmed from home item rest stands Dl is = λ mine.
        let there : item.key ≡ from = (subst (λ (xs : List OnRadio). AllByRecursion (λ (x : OnRadio). x.key ≡ from) xs) stands.1 (own from)).0 in
        let same : from ≡ down_key ue bearer = sym there ∙ key_is item.key Dl is mine in
        let there : Stands event s (by_ack (down_key ue bearer) home item rest)
        = subst (λ (k : EntityKey). Stands event s (by_ack k home item rest)) same stands in
        (acked_known deliv (radio_of s (down_key ue bearer)) known item rest there.1 there.2).1

    so : (i input : Input Token Pdu) → Some i ≡ Some input → InputIsTrue i → InputIsTrue input
    so i input same h = let is : i ≡ input = cc in subst (λ (j : Input Token Pdu). InputIsTrue j) is h

    input_tells : (reading : Reading) (gnb : Gnb) (number : ℕ) (input : Input Token Pdu) (c : RunCause) → node_of c ≡ du_id gnb number
        → input_of reading (given_of c) ≡ Some input → Stands event s c → InputIsTrue input
    input_tells reading gnb number input (by_order node order) at given stands = so (order_input order) input given tt
    input_tells reading gnb number input (by_tick node) at given stands = so tick_input input given tt
    input_tells reading gnb number input (by_octets from to octets) at given stands = absurd cc
    input_tells reading gnb number input (by_octets_on end octets) at given stands = absurd cc
    input_tells reading gnb number input (by_attach plan) at given stands = absurd cc
    input_tells reading gnb number input (by_release g who) at given stands = absurd cc
    input_tells reading gnb number input (by_offer who b sdu) at given stands = so (offer_input who b sdu) input given tt
    input_tells reading gnb number input (by_item end item rest) at given stands = so (packet_input end.teid (taken_of item.content.says)) input given tt
    input_tells reading gnb number input (by_air from home item) at given stands =
        so (radio_input item.key.ue item.key.bearer item.key.dir item.content.says (content_of item.content.says)) input given
        (aired from home item stands item.key.dir refl)
    input_tells reading gnb number input (by_ack from home item rest) at given stands =
        so (confirm_input item.key.ue item.key.bearer item.key.dir item.content.says (content_of item.content.says)) input given
        (confirmed from home item rest stands item.key.dir refl)
    input_tells reading gnb number input (by_control_message k l to) at given stands = so (control_input l.from l.message) input given tt

pub du_keeps : (reading : Reading) (event : Event) (s t : RunState) (ue : UeId) (bearer : BearerId) (deliv : ℕ) (gnb : Gnb) (number : ℕ) (cause : RunCause)
    (input : Input Token Pdu) (outputs : Outs) (left : DuRecord) → IsFair s
    → IsActed (plain_world reading) event s cause (map (written_put (sn_of s)) outputs) (with_du s.units gnb number left)
    → IsDuStep reading s t gnb number cause input outputs left → AreKnown (radio_of s (down_key ue bearer)) deliv
    → ReportsAreTrue ue bearer deliv s → ReportsAreTrue ue bearer deliv t
unfolding Puts
du_keeps reading event s t ue bearer deliv gnb number cause input outputs left fair acted step known told =
    let sound : Sound s = fair.sound in
    let r : DuRecord = du_of s.units gnb number in
    let listed : tunnels_put ue bearer outputs ≡ ups_by plain_way ue bearer r input
    = (subst (λ (a : Answer (Message Token) Pdu DuRecord). Puts ue bearer (ups_by plain_way ue bearer r input)
    (of_model (carried_of (change_by plain_way ue bearer r input)) (model_of r ue bearer)) a) step.answers
    (input_puts plain_way ue bearer r input ((sound.owned.1 gnb number).1 ue))).0 in
    let tells : AllByRecursion (λ (p : OnTunnel). LoadIsTrue deliv p.load) (tunnels_put ue bearer outputs)
    = subst (λ (ps : List OnTunnel). AllByRecursion (λ (p : OnTunnel). LoadIsTrue deliv p.load) ps) (sym listed)
    (ups_tell ue bearer deliv r input
    (input_tells ue bearer deliv event s sound.radios known told reading gnb number input cause step.node step.given acted.stands)) in
    told_then ue bearer deliv reading event s t cause (map (written_put (sn_of s)) outputs) (with_du s.units gnb number left) step.lines
    acted.stands step.goes_on told
    (outputs_tell ue bearer deliv gnb number (node_of cause) step.node (sn_of s) (count_of cause) outputs
    (subst (λ (n : NodeId). PutsFit (written_facts link_items) n (count_of cause) (map (written_put (sn_of s)) outputs)) step.node
    (puts_fit reading s event cause (map (written_put (sn_of s)) outputs) (with_du s.units gnb number left) fair acted)) tells)
