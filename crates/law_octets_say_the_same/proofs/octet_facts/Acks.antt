-- A radio confirms a packet: its DU puts a delivery status without loss.
use Rattle.std.proofs.Common.{◌≡◌, ◌==◌, ℕ, Bool, true, false, List, [], ◌∷◌, map, Option, Some, None, refl, sym, ap, ◌∙◌, subst}
use Rattle.std.specs.Prelude.{if◌then◌else◌}
use Rattle.std.specs.List.{AllByRecursion}
use Rattle.gnb_types.specs.declared.names.NodeId.{NodeId}
use Rattle.gnb_types.specs.declared.names.NodeId.TheVariants.{Du as du_id}
use Rattle.gnb_types.specs.declared.names.UeId.{UeId}
use Rattle.gnb_types.specs.declared.names.BearerId.{BearerId}
use Rattle.gnb_types.specs.declared.names.Dir.{Dir}
use Rattle.gnb_types.specs.declared.names.Dir.TheVariants.{Dl, Ul}
use Rattle.gnb_types.specs.declared.outputs.Tag.TheVariants.{Same}
use Rattle.gnb_types.specs.declared.keys.EntityKey.{EntityKey}
use Rattle.gnb_types.specs.declared.reasons.RefuseReason.TheVariants.{Empty, NoBearer}
use Rattle.message_types.specs.declared.rrc.Token.{Token}
use Rattle.scenario_text.specs.declared.event.Event.TheVariants as events
use Rattle.unit_defs.specs.Ways.{Message, Pdu, packet_pdu, report_pdu, status, packet, confirm_input}
use Rattle.unit_defs.specs.Du.{Du, du_acts}
use Rattle.transport_defs.specs.Links.{Radio}
use Rattle.run_defs.specs.Units.{du_of, with_du}
use Rattle.run_defs.specs.Written.{Written, written_put, written_step}
use Rattle.run_defs.specs.States.{confirmed_for, stepped, entity, radio_of, refused, has_bearer, sn_of}
use Rattle.run_defs.specs.Steps.{is_done, is_held, is_refused, ordered_by}
use Rattle.run_defs.specs.Conditions.{ready_home, sender_of}
use Rattle.run_defs.specs.Events.{confirm_done, ack_items, ack_at, ack}
use Rattle.run_defs.specs.Runs.{Reading, plain_way, plain_world, content_of, stepped_with}
use Rattle.proof_run_steps.specs.steps.Causes.{by_ack}
use Rattle.law_tunnels_are_owned.specs.owner_facts.Owned.{AreOwned}
use Rattle.proof_run_steps.specs.facts.Facts.{Hold}
use Rattle.proof_run_steps.proofs.facts.Units.{with_du_holds}
use Rattle.law_downlink_scripts.proofs.downlink_only_rows.Dus.{confirms}
use Rattle.law_downlink_scripts.proofs.downlink_only_facts.Views.{PlainState, OnRadio, View, Sees, Stage, comes, lacks, stands, AllStand}
use Rattle.law_downlink_scripts.proofs.downlink_only_facts.Keys.{DuFound, du_found}
use Rattle.law_downlink_scripts.proofs.downlink_only_events.Airs.{silent_up}
use Rattle.law_downlink_scripts.proofs.downlink_only_events.Acks.{at_the_du}
use Rattle.law_octets_say_the_same.specs.octet_facts.Ranges.{IsPduInRange}
use Rattle.law_octets_say_the_same.proofs.octet_facts.Facts.{Parts, ranges}
use Rattle.law_octets_say_the_same.proofs.octet_facts.Does.{PlainDone, Answers, Keeps, DoneKeeps, does_keeps}

module _ (Acks : Type 0) (acks : Acks) (reading : Reading) (s : PlainState) (owned : AreOwned s.units) (all : AllStand s) (h : Hold (ranges Acks) s) (ue : UeId)
    (bearer : BearerId) where
  module _ (home : NodeId) (item : OnRadio) (rest : List OnRadio) where
    abbrev Good : Dir → NodeId → Type 0
    Good dir node = Answers Acks (by_ack (entity ue bearer dir) node item rest)
        ((plain_world reading).answer (sn_of s) s.units (sender_of (entity ue bearer dir) node) (confirmed_for item))

    module _ (v : View) (sees : Sees s ue bearer v) (are : (radio_of s (entity ue bearer Dl)).items ≡ item ∷ rest) where
      abbrev du : Du (Message Token) Token
      du = du_of s.units v.plan.gnb v.plan.du

      abbrev f : DuFound du ue bearer v.du
      f = du_found du ue bearer v.du sees.du

      theirs : item.key ≡ entity ue bearer Dl
      theirs =
          (subst (AllByRecursion (λ (i : OnRadio). i.key ≡ entity ue bearer Dl)) (ap (λ (r : Radio (Written Pdu)). r.items) (sym sees.radio) ∙ are) sees.theirs).0

      in_range : IsPduInRange item.content.says
      in_range = (subst (AllByRecursion (λ (i : OnRadio). IsPduInRange i.content.says)) are (h.radios (entity ue bearer Dl))).0

      by : (pdu : Pdu) → item.content.says ≡ pdu → IsPduInRange pdu → Good Dl (du_id v.plan.gnb v.plan.du)
      by (report_pdu fmc bits) says range = absurd range
      by (packet_pdu count p) says range =
          subst (Answers Acks (by_ack (entity ue bearer Dl) (du_id v.plan.gnb v.plan.du) item rest)) (sym answer_is)
          (λ done. (with_du_holds Parts s.units v.plan.gnb v.plan.du du h.units (h.units.1 v.plan.gnb v.plan.du), (acks, tt)))
        where
          answer_is : (plain_world reading).answer (sn_of s) s.units (du_id v.plan.gnb v.plan.du) (confirmed_for item)
              ≡ stepped (map (written_put (sn_of s)) (packet f.found.up f.found.uplink ue bearer Dl Same (status [] (Some count)) ∷ [])) (with_du s.units v.plan.gnb v.plan.du du)
          answer_is =
              ap (λ (k : EntityKey × Pdu). written_step (sn_of s) (stepped_with reading (with_du s.units v.plan.gnb v.plan.du)
              (du_acts plain_way du (confirm_input k.0.ue k.0.bearer k.0.dir k.1 (content_of k.1))))) (λ i. (theirs i, says i))
              ∙ ap (λ a. written_step (sn_of s) (stepped_with reading (with_du s.units v.plan.gnb v.plan.du) a))
              (confirms plain_way du ue bearer f.context f.found (packet_pdu count p) (content_of (packet_pdu count p)) f.there f.has)

    by_stage : ready_home s ue ≡ Some home → (n : ℕ) (left : List (List ℕ)) → Stage s ue bearer n left → (radio_of s (entity ue bearer Dl)).items ≡ item ∷ rest → Good Dl home
    by_stage ready n left (comes plan absent none first empty) are =
        let clash : [] ≡ item ∷ rest = sym (ap (λ (r : Radio (Written Pdu)). r.items) none.2) ∙ are in absurd cc
    by_stage ready n left (lacks l none first) are =
        let clash : [] ≡ item ∷ rest = sym (ap (λ (r : Radio (Written Pdu)). r.items) none.2) ∙ are in absurd cc
    by_stage ready n left (stands v sees fit order) are =
        subst (Good Dl) (sym (at_the_du reading s owned all ue bearer ue bearer v sees home ready)) (by v sees are item.content.says refl (in_range v sees are))

    confirmed_good : ready_home s ue ≡ Some home → (dir : Dir) → (radio_of s (entity ue bearer dir)).items ≡ item ∷ rest → Good dir home
    confirmed_good ready Dl are = by_stage ready (all ue bearer).delivered (all ue bearer).left (all ue bearer).stage are
    confirmed_good ready Ul are =
        let silence = silent_up s ue bearer (all ue bearer).delivered (all ue bearer).left (all ue bearer).stage in
        let clash : [] ≡ item ∷ rest = sym (ap (λ (r : Radio (Written Pdu)). r.items) silence) ∙ are in
        absurd cc

  -- ---- the event

  module _ (dir : Dir) where
    abbrev key : EntityKey
    key = entity ue bearer dir

    on_items : (home : NodeId) → ready_home s ue ≡ Some home → (items : List OnRadio) → (radio_of s key).items ≡ items
        → Keeps Acks reading (ack_items (plain_world reading) key home s items (radio_of s key).carried)
    on_items home ready [] are = h
    on_items home ready (item ∷ rest) are = some ((radio_of s key).carried == 0) refl
      where
        ordered : (d : PlainDone) → DoneKeeps Acks reading d → Keeps Acks reading (ordered_by (plain_world reading) s d)
        ordered (is_done outcome) k = k
        ordered (is_held reason) k = h
        ordered (is_refused reason) k = h

        some : (t : Bool) → ((radio_of s key).carried == 0) ≡ t
            → Keeps Acks reading (if t then refused Empty s else ordered_by (plain_world reading) s (confirm_done (plain_world reading) key home item rest s))
        some true e = h
        some false e =
            ordered (confirm_done (plain_world reading) key home item rest s)
            (does_keeps Acks reading (events.Ack ue bearer dir) (by_ack key home item rest) s h (ready, are, e) (λ plan is. absurd cc)
            (confirmed_good home item rest ready dir are))

    at_home : (o : Option NodeId) → ready_home s ue ≡ o → Keeps Acks reading (ack_at (plain_world reading) key s o)
    at_home None ready = h
    at_home (Some home) ready = on_items home ready (radio_of s key).items refl

    pub ack_keeps : Keeps Acks reading (ack (plain_world reading) key s)
    unfolding ack
    ack_keeps = by_bearer (has_bearer s ue bearer)
      where
        by_bearer : (t : Bool) → Keeps Acks reading (if t then ack_at (plain_world reading) key s (ready_home s ue) else refused NoBearer s)
        by_bearer true = at_home (ready_home s ue) refl
        by_bearer false = h
