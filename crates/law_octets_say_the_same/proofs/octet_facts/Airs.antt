-- A radio carries a packet to its terminal, which delivers it, and puts nothing.
use Rattle.std.proofs.Common.{◌≡◌, ℕ, true, false, Bool, List, [], ◌∷◌, ◌++◌, map, Option, Some, None, inl, inr, refl, sym, ap, ◌∙◌, subst}
use Rattle.std.specs.Prelude.{if◌then◌else◌}
use Rattle.std.specs.List.{AllByRecursion}
use Rattle.gnb_types.specs.declared.names.NodeId.{NodeId}
use Rattle.gnb_types.specs.declared.names.NodeId.TheVariants.{Ue}
use Rattle.gnb_types.specs.declared.names.UeId.{UeId}
use Rattle.gnb_types.specs.declared.names.BearerId.{BearerId}
use Rattle.gnb_types.specs.declared.names.Dir.{Dir}
use Rattle.gnb_types.specs.declared.names.Dir.TheVariants.{Dl, Ul}
use Rattle.gnb_types.specs.declared.keys.EntityKey.{EntityKey}
use Rattle.gnb_types.specs.declared.reasons.RefuseReason.TheVariants.{NoBearer}
use Rattle.scenario_text.specs.declared.event.Event.{Event}
use Rattle.unit_defs.specs.Ways.{Pdu, packet_pdu, radio_input, gives, spent}
use Rattle.unit_defs.specs.Ue.{UeNode, ue_acts}
use Rattle.transport_defs.specs.Links.{Radio, nth}
use Rattle.run_defs.specs.Units.{ue_of, with_ue}
use Rattle.run_defs.specs.Written.{Written, written_put, written_step}
use Rattle.run_defs.specs.States.{carried_for, entity, radio_of, refused, has_bearer, sn_of}
use Rattle.run_defs.specs.Steps.{is_done, is_held, is_refused}
use Rattle.run_defs.specs.Conditions.{ready_home, receiver_of}
use Rattle.run_defs.specs.Events.{carry_done, carried_by, air_item, air_at, air}
use Rattle.run_defs.specs.Runs.{Reading, Plain, plain_way, plain_world, content_of, ue_stepped, stepped_with}
use Rattle.proof_run_steps.specs.steps.Causes.{by_air}
use Rattle.proof_run_steps.specs.steps.IsOutcome.{IsDone}
use Rattle.proof_run_steps.specs.facts.Facts.{Hold, PutsFit}
use Rattle.proof_run_steps.proofs.facts.Units.{with_ue_holds}
use Rattle.law_downlink_scripts.specs.downlink_only_rows.DownlinkOnly.{UeTakes}
use Rattle.law_downlink_scripts.proofs.downlink_only_rows.Ues.{ue_takes}
use Rattle.law_downlink_scripts.proofs.downlink_only_facts.Views.{PlainState, OnRadio, View, pdu_of, pdus_from, Sees, IsInOrder, Stage, comes, lacks, stands, AllStand}
use Rattle.law_downlink_scripts.proofs.downlink_only_steps.Ues.{nth_after}
use Rattle.law_downlink_scripts.proofs.downlink_only_events.Airs.{silent_up}
use Rattle.law_octets_say_the_same.proofs.octet_facts.Facts.{Parts, ranges}
use Rattle.law_octets_say_the_same.proofs.octet_facts.Does.{PlainDone, Answers, Keeps, DoneKeeps, does_keeps}

among : (Q : OnRadio → Type 0) (x : OnRadio) (xs ys : List OnRadio) → AllByRecursion Q (xs ++ (x ∷ ys)) → Q x
among Q x [] ys h = h.0
among Q x (z ∷ xs) ys h = among Q x xs ys h.1

module _ (Acks : Type 0) (reading : Reading) (s : PlainState) (h : Hold (ranges Acks) s) (ue : UeId) (bearer : BearerId) (home : NodeId) (item : OnRadio) where
  abbrev Good : Dir → Type 0
  Good dir =
      Answers Acks (by_air (entity ue bearer dir) home item)
      ((plain_world reading).answer (sn_of s) s.units (receiver_of (entity ue bearer dir) home) (carried_for item))

  module _ (v : View) (sees : Sees s ue bearer v) (n : ℕ) (left : List (List ℕ)) (order : IsInOrder v n left) where
    abbrev x : UeNode
    x = sees.terminal.node

    module _ (p : List ℕ) (says : item.content.says ≡ packet_pdu n p) (theirs : item.key ≡ entity ue bearer Dl) where
      abbrev acted : Plain UeNode
      acted = ue_acts plain_way x (radio_input ue bearer Dl (packet_pdu n p) (content_of (packet_pdu n p)))

      answer_is : (plain_world reading).answer (sn_of s) s.units (Ue ue.0) (carried_for item) ≡ written_step (sn_of s) (stepped_with reading (with_ue s.units ue) acted)
      answer_is =
          ap (λ (k : EntityKey × Pdu). written_step (sn_of s) (ue_stepped reading s.units ue.0 (radio_input k.0.ue k.0.bearer k.0.dir k.1 (content_of k.1)) (ue_of s.units ue)))
          (λ i. (theirs i, says i))
          ∙ ap (λ (o : Option UeNode). written_step (sn_of s) (ue_stepped reading s.units ue.0 (radio_input ue bearer Dl (packet_pdu n p) (content_of (packet_pdu n p))) o))
          sees.terminal.there

      by_answer : (a : Plain UeNode) → UeTakes plain_way x bearer v.bearer n p a
          → Answers Acks (by_air (entity ue bearer Dl) home item) (written_step (sn_of s) (stepped_with reading (with_ue s.units ue) a))
      by_answer (spent counter) takes = tt
      by_answer (gives outputs y) (inl holds) = λ done. absurd (subst (λ os. IsDone (map (written_put (sn_of s)) os)) holds done)
      by_answer (gives outputs y) (inr delivers) = λ done. (
        with_ue_holds Parts s.units ue y h.units (ap (λ (z : UeNode). z.plan.ue) delivers.1 ∙ sees.terminal.own),
        subst (λ os. PutsFit (ranges Acks) (Ue ue.0) item.count (map (written_put (sn_of s)) os)) (sym delivers.0) (tt, tt),
      )

      packet_good : Good Dl
      packet_good =
          subst (Answers Acks (by_air (entity ue bearer Dl) home item)) (sym answer_is)
          (by_answer acted (ue_takes plain_way x bearer v.bearer n p ue (packet_pdu n p) sees.terminal.has order.receiver))

    by_flying : (fl : List OnRadio) → order.flying ≡ fl → nth fl 0 ≡ Some item → Good Dl
    by_flying [] is next = absurd cc
    by_flying (y ∷ fl) is next =
        let same : y ≡ item = cc in
        by order.aired (is ∙ ap (λ (z : OnRadio). z ∷ fl) same) (ap (map pdu_of) (sym (is ∙ ap (λ (z : OnRadio). z ∷ fl) same)) ∙ order.on_radio)
      where
        by : (ps : List (List ℕ)) → order.flying ≡ item ∷ fl → map pdu_of (item ∷ fl) ≡ pdus_from n ps → Good Dl
        by [] flying e = absurd cc
        by (p ∷ more) flying e =
            let says : item.content.says ≡ packet_pdu n p = cc in
            packet_good p says
            (among (λ (i : OnRadio). i.key ≡ entity ue bearer Dl) item order.known fl
            (subst (AllByRecursion (λ (i : OnRadio). i.key ≡ entity ue bearer Dl)) (order.radio_is ∙ ap (λ (is : List OnRadio). order.known ++ is) flying) sees.theirs))

  by_stage : (n : ℕ) (left : List (List ℕ)) → Stage s ue bearer n left
      → nth (radio_of s (entity ue bearer Dl)).items (radio_of s (entity ue bearer Dl)).carried ≡ Some item → Good Dl
  by_stage n left (comes plan absent none first empty) next =
      let clash : None ≡ Some item = sym (ap (λ (r : Radio (Written Pdu)). nth r.items r.carried) none.2) ∙ next in absurd cc
  by_stage n left (lacks l none first) next =
      let clash : None ≡ Some item = sym (ap (λ (r : Radio (Written Pdu)). nth r.items r.carried) none.2) ∙ next in absurd cc
  by_stage n left (stands v sees fit order) next =
      by_flying v sees n left order order.flying refl
      (sym (ap (λ (r : Radio (Written Pdu)). nth r.items r.carried) sees.radio ∙ ap (λ (is : List OnRadio). nth is v.radio.carried) order.radio_is
      ∙ nth_after order.known order.flying v.radio.carried order.carried_is) ∙ next)

  carried_good : AllStand s → (dir : Dir) → nth (radio_of s (entity ue bearer dir)).items (radio_of s (entity ue bearer dir)).carried ≡ Some item → Good dir
  carried_good all Dl next = by_stage (all ue bearer).delivered (all ue bearer).left (all ue bearer).stage next
  carried_good all Ul next =
      let silence = silent_up s ue bearer (all ue bearer).delivered (all ue bearer).left (all ue bearer).stage in
      let clash : None ≡ Some item = sym (ap (λ (r : Radio (Written Pdu)). nth r.items r.carried) silence) ∙ next in
      absurd cc

-- ---- the event

module _ (Acks : Type 0) (reading : Reading) (s : PlainState) (all : AllStand s) (h : Hold (ranges Acks) s) (event : Event) (ue : UeId) (bearer : BearerId) (dir : Dir) where
  abbrev key : EntityKey
  key = entity ue bearer dir

  on_item : (home : NodeId) → ready_home s ue ≡ Some home → (o : Option OnRadio) → nth (radio_of s key).items (radio_of s key).carried ≡ o
      → Keeps Acks reading (air_item (plain_world reading) key home s o)
  on_item home ready None next = h
  on_item home ready (Some item) next =
      by (carry_done (plain_world reading) key home item s)
      (does_keeps Acks reading event (by_air key home item) s h (ready, next) (λ plan is. absurd cc) (carried_good Acks reading s h ue bearer home item all dir next))
    where
      by : (d : PlainDone) → DoneKeeps Acks reading d → Keeps Acks reading (carried_by (plain_world reading) key home s d)
      by (is_done outcome) k = k
      by (is_held reason) k = h
      by (is_refused reason) k = h

  at_home : (o : Option NodeId) → ready_home s ue ≡ o → Keeps Acks reading (air_at (plain_world reading) key s o)
  at_home None ready = h
  at_home (Some home) ready = on_item home ready (nth (radio_of s key).items (radio_of s key).carried) refl

  pub air_keeps : Keeps Acks reading (air (plain_world reading) key s)
  unfolding air
  air_keeps = by (has_bearer s ue bearer)
    where
      by : (t : Bool) → Keeps Acks reading (if t then air_at (plain_world reading) key s (ready_home s ue) else refused NoBearer s)
      by true = at_home (ready_home s ue) refl
      by false = h
