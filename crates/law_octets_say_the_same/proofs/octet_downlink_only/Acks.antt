-- The oldest packet that a radio carried says to the DU what its octets say.
use Rattle.std.proofs.Common.{◌≡◌, ℕ, List, [], ◌∷◌, Some, refl, sym, ap, ◌∙◌, subst}
use Rattle.std.specs.List.{AllByRecursion}
use Rattle.gnb_types.specs.declared.names.NodeId.{NodeId}
use Rattle.gnb_types.specs.declared.names.NodeId.TheVariants.{Du as du_id}
use Rattle.gnb_types.specs.declared.names.UeId.{UeId}
use Rattle.gnb_types.specs.declared.names.BearerId.{BearerId}
use Rattle.gnb_types.specs.declared.names.Dir.{Dir}
use Rattle.gnb_types.specs.declared.names.Dir.TheVariants.{Dl, Ul}
use Rattle.unit_defs.specs.Ways.{Pdu, packet_pdu, report_pdu}
use Rattle.unit_defs.specs.octet_defs.Codec.{Codec}
use Rattle.unit_defs.specs.codec_defs.Reading.{ReadsPdus}
use Rattle.transport_defs.specs.Links.{Radio}
use Rattle.run_defs.specs.Units.{du_of}
use Rattle.run_defs.specs.Conditions.{ready_home, sender_of}
use Rattle.run_defs.specs.Written.{Written, written_pdu}
use Rattle.run_defs.specs.States.{confirmed_for, entity, radio_of, sn_of}
use Rattle.run_defs.specs.Runs.{Reading}
use Rattle.law_tunnels_are_owned.specs.owner_facts.Owned.{AreOwned}
use Rattle.law_downlink_scripts.proofs.downlink_only_facts.Views.{PlainState, OnRadio, View, Sees, Stage, comes, lacks, stands, AllStand}
use Rattle.law_downlink_scripts.proofs.downlink_only_facts.Keys.{DuFound, du_found}
use Rattle.law_downlink_scripts.proofs.downlink_only_events.Airs.{silent_up}
use Rattle.law_downlink_scripts.proofs.downlink_only_events.Acks.{at_the_du}
use Rattle.law_octets_say_the_same.specs.octet_runs.Faithful.{ReadsAlike}
use Rattle.law_octets_say_the_same.proofs.octet_answers.Units.{du_reads_confirmed}
use Rattle.law_octets_say_the_same.specs.octet_facts.Ranges.{IsPduInRange, IsWrittenAt, IsRanged}

module _ (Acks : Type 0) (codec : Codec) (reads : ReadsPdus codec) (reading : Reading) (s : PlainState) (owned : AreOwned s.units) (all : AllStand s)
    (ranged : IsRanged Acks s) (ue : UeId) (bearer : BearerId) (home : NodeId) (item : OnRadio) (rest : List OnRadio) where
  abbrev Reads : Dir → NodeId → Type 0
  Reads dir node = ReadsAlike codec reading s (sender_of (entity ue bearer dir) node) (confirmed_for item)

  module _ (v : View) (sees : Sees s ue bearer v) (are : (radio_of s (entity ue bearer Dl)).items ≡ item ∷ rest) where
    theirs : item.key ≡ entity ue bearer Dl
    theirs =
        (subst (AllByRecursion (λ (i : OnRadio). i.key ≡ entity ue bearer Dl)) (ap (λ (r : Radio (Written Pdu)). r.items) (sym sees.radio) ∙ are) sees.theirs).0

    written : IsWrittenAt s item
    written = (subst (AllByRecursion (IsWrittenAt s)) are (ranged.radios (entity ue bearer Dl))).0

    abbrev f : DuFound (du_of s.units v.plan.gnb v.plan.du) ue bearer v.du
    f = du_found (du_of s.units v.plan.gnb v.plan.du) ue bearer v.du sees.du

    by : (pdu : Pdu) → item.content.says ≡ pdu → IsPduInRange pdu → Reads Dl (du_id v.plan.gnb v.plan.du)
    by (report_pdu fmc bits) says range = absurd range
    by (packet_pdu count p) says range =
        du_reads_confirmed codec reading s v.plan.gnb v.plan.du reads ue bearer f.context f.found count p item range.1 f.there f.has
        (ranged.dus v.plan.gnb v.plan.du ue f.context f.there) theirs (written.0 ∙ (λ i. written_pdu (sn_of s (theirs i).ue) (says i)))

  by_stage : ready_home s ue ≡ Some home → (n : ℕ) (left : List (List ℕ)) → Stage s ue bearer n left → (radio_of s (entity ue bearer Dl)).items ≡ item ∷ rest → Reads Dl home
  by_stage ready n left (comes plan absent none first empty) are =
      let clash : [] ≡ item ∷ rest = sym (ap (λ (r : Radio (Written Pdu)). r.items) none.2) ∙ are in absurd cc
  by_stage ready n left (lacks l none first) are =
      let clash : [] ≡ item ∷ rest = sym (ap (λ (r : Radio (Written Pdu)). r.items) none.2) ∙ are in absurd cc
  by_stage ready n left (stands v sees fit order) are =
      subst (Reads Dl) (sym (at_the_du reading s owned all ue bearer ue bearer v sees home ready)) (by v sees are item.content.says refl (written v sees are).1)

  pub confirms_alike : (dir : Dir) → ready_home s ue ≡ Some home → (radio_of s (entity ue bearer dir)).items ≡ item ∷ rest → Reads dir home
  confirms_alike Dl ready are = by_stage ready (all ue bearer).delivered (all ue bearer).left (all ue bearer).stage are
  confirms_alike Ul ready are =
      let silence = silent_up s ue bearer (all ue bearer).delivered (all ue bearer).left (all ue bearer).stage in
      let clash : [] ≡ item ∷ rest = sym (ap (λ (r : Radio (Written Pdu)). r.items) silence) ∙ are in
      absurd cc
