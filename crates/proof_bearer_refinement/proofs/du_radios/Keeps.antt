-- A step of a DU leaves what waits on the radio down, and the frames after it, as they are to be.
use Rattle.std.proofs.Common.{◌≡◌, ℕ, ◌==◌, Bool, true, false, List, [], ◌∷◌, ◌++◌, map, Option, Some, refl, sym, ap, subst, ◌∙◌, arith}
use Rattle.std.specs.Prelude.{if◌then◌else◌}
use Rattle.std.proofs.lemmas.List.{append-nil}
use Rattle.std.specs.Ordering.{eq_by_cmp}
use Rattle.std.specs.Cmp.{Equal-is}
use Rattle.gnb_types.specs.declared.names.Gnb.{Gnb}
use Rattle.gnb_types.specs.declared.names.NodeId.{NodeId}
use Rattle.gnb_types.specs.declared.names.NodeId.TheVariants.{CuCp, CuUp, Du as du_id, Core, Ue}
use Rattle.gnb_types.specs.declared.names.UeId.{UeId}
use Rattle.gnb_types.specs.declared.names.BearerId.{BearerId}
use Rattle.gnb_types.specs.declared.names.Dir.{Dir}
use Rattle.gnb_types.specs.declared.names.Dir.TheVariants.{Dl}
use Rattle.gnb_types.specs.declared.keys.EntityKey.{EntityKey}
use Rattle.gnb_types.specs.Orders.{entity_cmp}
use Rattle.gnb_types.proofs.OrderLemmas.{entity_exact}
use Rattle.message_types.specs.declared.rrc.Token.{Token}
use Rattle.scenario_text.specs.declared.event.Event.{Event}
use Rattle.bearer_defs.specs.chain_defs.Models.{Model}
use Rattle.intervals.specs.Intervals.{HasNoGap}
use Rattle.unit_defs.specs.Ways.{Message, Pdu, Input, Output}
use Rattle.unit_defs.specs.Du.{DuBearer}
use Rattle.run_defs.specs.Units.{Units, du_of, with_du}
use Rattle.run_defs.specs.Written.{written_put}
use Rattle.run_defs.specs.States.{sn_of}
use Rattle.run_defs.specs.Steps.{epoch_now}
use Rattle.run_defs.specs.Conditions.{receiver_by}
use Rattle.run_defs.specs.Runs.{Reading, plain_world, plain_way}
use Rattle.proof_run_steps.specs.steps.Causes.{by_order, by_tick, by_octets, by_octets_on, by_attach, by_release, by_offer, by_item, by_air, by_ack, by_control_message, Stands, node_of, count_of}
use Rattle.proof_bearer_refinement.specs.run_unit_inputs.Happenings.{DuRecord}
use Rattle.law_downlink_order.specs.path.Paths.{Frame, carried_by, gap_after, taken_by}
use Rattle.proof_node_orders.specs.du_inputs.Changes.{takes, DuModel, model_of, change_by}
use Rattle.proof_node_orders.specs.du_puts.Inputs.{IsInOrder}
use Rattle.proof_bearer_refinement.specs.du_puts.Puts.{IsDuStep}
use Rattle.proof_run_steps.specs.radio_steps.Radios.{on_air, after_taking, after_puts, moved_to, followed}
use Rattle.proof_run_steps.proofs.radio_steps.Tracks.{acts_so}
use Rattle.proof_bearer_refinement.specs.uplink_radio.Radio.{RunState, RunCause, OnRadio, packets_on, IsOther, IsFrameStep}
use Rattle.law_downlink_order.specs.waiting_frames.Frames.{Fits, IsLine}
use Rattle.law_downlink_order.proofs.waiting_frames.Frames.{puts_what_fits}
use Rattle.proof_bearer_refinement.specs.downlink_radio.Down.{down_key, IsDown, Puts, packets_down, Stays}
use Rattle.proof_bearer_refinement.proofs.downlink_radio.Waits.{Air, more_down, items_put, puts_are, puts_say, none_off}
use Rattle.proof_bearer_refinement.proofs.downlink_radio.Others.{IsLike, taken_like}
use Rattle.proof_bearer_refinement.specs.du_radios.Puts.{packets_by, AreDown}
use Rattle.proof_bearer_refinement.proofs.du_radios.Puts.{puts_frames}

number_same : (a : ℕ) → (a == a) ≡ true
number_same a = grind arith

-- ---- a DU carries nothing there, and releases no terminal

module _ (key : EntityKey) (gnb : Gnb) (number : ℕ) where
  du_stays : (c : RunCause) → node_of c ≡ du_id gnb number → (from_down : key.dir ≡ Dl) → Stays key c
  du_stays (by_air from home item) at down = by (eq_by_cmp entity_cmp key from) refl
    where
      by : (t : Bool) → eq_by_cmp entity_cmp key from ≡ t → t ≡ false
      by false e = refl
      by true e =
          let same : key ≡ from = entity_exact key from ((Equal-is (entity_cmp key from)).0 e) in
          let goes_down : from.dir ≡ Dl = ap (λ (k : EntityKey). k.dir) (sym same) ∙ down in
          let to : receiver_by Dl from.ue home ≡ du_id gnb number = ap (λ (dir : Dir). receiver_by dir from.ue home) (sym goes_down) ∙ at in absurd cc
  du_stays (by_release g who) at down = absurd cc
  du_stays (by_ack from home item rest) at down = tt
  du_stays (by_order node order) at down = tt
  du_stays (by_tick node) at down = tt
  du_stays (by_octets from to octets) at down = tt
  du_stays (by_octets_on end octets) at down = tt
  du_stays (by_attach plan) at down = tt
  du_stays (by_offer who q sdu) at down = tt
  du_stays (by_item end item rest) at down = tt
  du_stays (by_control_message n l to) at down = tt

follows_off : (reading : Reading) (key : EntityKey) (node : NodeId) (now : Option ℕ) (a : Air) → IsOther key.ue node
    → followed (plain_world reading) key node now a ≡ a
follows_off reading key (Ue w) now a other = ap (λ (t : Bool). if t then moved_to (plain_world reading) now a else a) other
follows_off reading key (CuCp g) now a other = refl
follows_off reading key (CuUp g k) now a other = refl
follows_off reading key (du_id g k) now a other = refl
follows_off reading key Core now a other = refl

-- ---- more waits there

-- the radio with more at its end
abbrev Waits : Air → Model → List (ℕ × List ℕ) → Type 0
Waits a d waits = (down : IsDown a d) × (down.waits ≡ waits)

module _ (reading : Reading) (event : Event) (s t : RunState) (ue : UeId) (bearer : BearerId) (d : Model) (cause : RunCause) (outputs : Puts)
    (units : Units (Message Token) Token) (stands : Stands event s cause) (stays : Stays (down_key ue bearer) cause)
    (step : IsFrameStep reading s t ue bearer cause outputs units) where
  abbrev key : EntityKey
  key = down_key ue bearer

  waits_more : (h : IsDown (on_air s key) d) → Fits d h.waits (packets_down key (on_air s key).epoch outputs)
      → Waits (on_air t key) d (h.waits ++ packets_down key (on_air s key).epoch outputs)
  unfolding more_down
  waits_more h fits =
      let took : IsLike (on_air s key) (after_taking key cause (on_air s key)) d h.waits = taken_like event s key d h cause stands stays in
      let b : Air = after_taking key cause (on_air s key) in
      let more : List OnRadio = items_put key (count_of cause) b.epoch outputs in
      let said : packets_on more ≡ packets_down key (on_air s key).epoch outputs =
      puts_say key (count_of cause) b.epoch outputs ∙ ap (λ (o : Option ℕ). packets_down key o outputs) took.epoch in
      let fit : Fits d took.down.waits (packets_on more) =
      subst (λ (w : List (ℕ × List ℕ)). Fits d w (packets_on more)) (sym took.same)
      (subst (λ (m : List (ℕ × List ℕ)). Fits d h.waits m) (sym said) fits) in
      let is : on_air t key ≡ after_puts key (count_of cause) outputs b =
      acts_so (plain_world reading) key cause outputs units s t step.lines step.goes_on
      ∙ ap (after_puts key (count_of cause) outputs)
      (follows_off reading key (node_of cause) (epoch_now (plain_world reading) (record s { units = units }) ue) b step.other) in
      subst (λ (x : Air). Waits x d (h.waits ++ packets_down key (on_air s key).epoch outputs)) (sym (is ∙ puts_are key (count_of cause) outputs b))
      (more_down b d took.down more (none_off key (count_of cause) b.epoch outputs) fit, (λ i. took.same i ++ said i))

-- ---- a step of a DU

module _ (reading : Reading) (event : Event) (s t : RunState) (ue : UeId) (bearer : BearerId) (d : Model) (gnb : Gnb) (number : ℕ) (cause : RunCause)
    (input : Input Token Pdu) (outputs : List (Output (Message Token) Pdu)) (left : DuRecord) (in_order : IsInOrder (du_of s.units gnb number) ue)
    (stands : Stands event s cause) (step : IsDuStep reading s t gnb number cause input outputs left)
    (beside : IsFrameStep reading s t ue bearer cause (map (written_put (sn_of s)) outputs) (with_du s.units gnb number left)) where
  abbrev its_key : EntityKey
  its_key = down_key ue bearer

  abbrev at : Option ℕ
  at = (on_air s its_key).epoch

  abbrev put : List (ℕ × List ℕ)
  put = packets_down its_key at (map (written_put (sn_of s)) outputs)

  put_is : put ≡ packets_by at (change_by plain_way ue bearer (du_of s.units gnb number) input) (model_of (du_of s.units gnb number) ue bearer)
  put_is = puts_frames ue bearer (du_of s.units gnb number) left input outputs (sn_of s) at in_order step.answers

  goes_on : (h : IsDown (on_air s its_key) d) → Fits d h.waits put → Waits (on_air t its_key) d (h.waits ++ put)
  goes_on =
      waits_more reading event s t ue bearer d cause (map (written_put (sn_of s)) outputs) (with_du s.units gnb number left) stands
      (du_stays its_key gnb number cause step.node refl) beside

  pub takes_a_frame : (part : DuModel) (f : Frame) (rest : List Frame) (next needed : ℕ) → model_of (du_of s.units gnb number) ue bearer ≡ Some part
      → change_by plain_way ue bearer (du_of s.units gnb number) input ≡ takes f → at ≡ Some part.epoch
      → AreDown (on_air s its_key) d part.bearer (f ∷ rest) next needed
      → AreDown (on_air t its_key) d (taken_by part.bearer f) rest next needed
  takes_a_frame part f rest next needed there change connected h =
      let carried : List (ℕ × List ℕ) = carried_by (gap_after part.bearer f f.pdu) f.pdu in
      let is : put ≡ carried =
      put_is ∙ (λ i. packets_by (connected i) (change i) (there i))
      ∙ ap (λ (e : Bool). if e then carried else []) (number_same part.epoch) in
      let fits = puts_what_fits d part.bearer f rest h.radio.waits next needed h.line in
      let on = goes_on h.radio (subst (λ (m : List (ℕ × List ℕ)). Fits d h.radio.waits m) (sym is) fits.0) in
      record {
        radio = on.0;
        line = subst (λ (w : List (ℕ × List ℕ)). IsLine d (taken_by part.bearer f) rest w next needed)
            (ap (λ (m : List (ℕ × List ℕ)). h.radio.waits ++ m) (sym is) ∙ sym on.1) fits.1;
      }

  pub keeps_quiet : (b : DuBearer) (frames : List Frame) (next needed : ℕ)
      → packets_by at (change_by plain_way ue bearer (du_of s.units gnb number) input) (model_of (du_of s.units gnb number) ue bearer) ≡ []
      → AreDown (on_air s its_key) d b frames next needed → AreDown (on_air t its_key) d b frames next needed
  unfolding HasNoGap
  keeps_quiet b frames next needed none h =
      let is : put ≡ [] = put_is ∙ none in
      let on = goes_on h.radio (subst (λ (m : List (ℕ × List ℕ)). Fits d h.radio.waits m) (sym is) (record { put = tt; no_gap = tt })) in
      record {
        radio = on.0;
        line = subst (λ (w : List (ℕ × List ℕ)). IsLine d b frames w next needed)
            (sym (append-nil h.radio.waits) ∙ ap (λ (m : List (ℕ × List ℕ)). h.radio.waits ++ m) (sym is) ∙ sym on.1) h.line;
      }
