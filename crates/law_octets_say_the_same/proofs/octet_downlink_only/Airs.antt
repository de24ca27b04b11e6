-- The oldest packet that a radio is to carry says to the terminal what its octets say.
use Rattle.std.proofs.Common.{◌≡◌, ℕ, ◌%◌, ◌≤◌, List, [], ◌∷◌, ◌++◌, map, Some, None, refl, sym, ap, ◌∙◌, subst, arith}
use Rattle.std.specs.List.{AllByRecursion}
use Rattle.gnb_types.specs.declared.names.NodeId.{NodeId}
use Rattle.gnb_types.specs.declared.names.UeId.{UeId}
use Rattle.gnb_types.specs.declared.names.BearerId.{BearerId}
use Rattle.gnb_types.specs.declared.names.SnBits.{SnBits}
use Rattle.gnb_types.specs.declared.names.SnBits.TheVariants.{Len12, Len18}
use Rattle.gnb_types.specs.declared.names.Dir.{Dir}
use Rattle.gnb_types.specs.declared.names.Dir.TheVariants.{Dl, Ul}
use Rattle.pdcp.specs.Near.{last_count}
use Rattle.pdcp.specs.Numbers.{space}
use Rattle.pdcp_defs.specs.Counts.{number_of, near_count}
use Rattle.unit_defs.specs.Ways.{Pdu, packet_pdu}
use Rattle.unit_defs.specs.octet_defs.Codec.{Codec}
use Rattle.unit_defs.specs.codec_defs.Reading.{ReadsPdus}
use Rattle.transport_defs.specs.Links.{Radio, nth}
use Rattle.run_defs.specs.Conditions.{receiver_of}
use Rattle.run_defs.specs.Written.{Written, written_pdu}
use Rattle.run_defs.specs.States.{carried_for, entity, radio_of, sn_of}
use Rattle.run_defs.specs.Runs.{Reading}
use Rattle.pdcp.proofs.NearLaws.{near_inverts}
use Rattle.pdcp_entities.proofs.NearLemmas.{near_is}
use Rattle.law_downlink_scripts.proofs.downlink_only_facts.Views.{PlainState, OnRadio, View, pdu_of, pdus_from, Sees, IsInOrder, Stage, comes, lacks, stands, AllStand}
use Rattle.law_downlink_scripts.proofs.downlink_only_steps.Ues.{nth_after}
use Rattle.law_downlink_scripts.proofs.downlink_only_events.Airs.{silent_up}
use Rattle.law_octets_say_the_same.specs.octet_runs.Faithful.{ReadsAlike}
use Rattle.law_octets_say_the_same.proofs.octet_answers.Units.{ue_reads}
use Rattle.law_octets_say_the_same.specs.octet_facts.Ranges.{IsPduInRange, IsWrittenAt, IsRanged}

-- the number of a COUNT stands for it where it is the one that is awaited
near_itself : (sn : SnBits) (n : ℕ) → n ≤ last_count → near_count sn n (number_of sn n) ≡ Some n
near_itself Len12 n given = near_is Len12 n (n % space Len12) n (near_inverts Len12 n n n (omega arith) (omega arith) (omega arith) (omega arith) given)
near_itself Len18 n given = near_is Len18 n (n % space Len18) n (near_inverts Len18 n n n (omega arith) (omega arith) (omega arith) (omega arith) given)

among : (Q : OnRadio → Type 0) (x : OnRadio) (xs ys : List OnRadio) → AllByRecursion Q (xs ++ (x ∷ ys)) → Q x
among Q x [] ys h = h.0
among Q x (z ∷ xs) ys h = among Q x xs ys h.1

module _ (Acks : Type 0) (codec : Codec) (reads : ReadsPdus codec) (reading : Reading) (s : PlainState) (all : AllStand s) (ranged : IsRanged Acks s) (ue : UeId) (bearer : BearerId)
    (home : NodeId) (item : OnRadio) where
  abbrev Reads : Dir → Type 0
  Reads dir = ReadsAlike codec reading s (receiver_of (entity ue bearer dir) home) (carried_for item)

  module _ (v : View) (sees : Sees s ue bearer v) (n : ℕ) (left : List (List ℕ)) (order : IsInOrder v n left) (fl : List OnRadio) (flying_is : order.flying ≡ item ∷ fl) where
    of_item : (Q : OnRadio → Type 0) → AllByRecursion Q v.radio.items → Q item
    of_item Q h = among Q item order.known fl (subst (AllByRecursion Q) (order.radio_is ∙ ap (λ (is : List OnRadio). order.known ++ is) flying_is) h)

    key_is : item.key ≡ entity ue bearer Dl
    key_is = of_item (λ (i : OnRadio). i.key ≡ entity ue bearer Dl) sees.theirs

    written : IsWrittenAt s item
    written =
        of_item (IsWrittenAt s) (subst (λ (r : Radio (Written Pdu)). AllByRecursion (IsWrittenAt s) r.items) sees.radio (ranged.radios (entity ue bearer Dl)))

    awaited : (p : List ℕ) → item.content.says ≡ packet_pdu n p → Reads Dl
    awaited p says =
        let range : IsPduInRange (packet_pdu n p) = subst IsPduInRange says written.1 in
        ue_reads codec reading s ue sees.terminal.node sees.terminal.there reads bearer v.bearer n p item range.1 sees.terminal.has
        (ranged.ues ue sees.terminal.node sees.terminal.there)
        (ap (λ r. near_count sees.terminal.node.plan.sn r.deliv (number_of sees.terminal.node.plan.sn n)) order.receiver
        ∙ near_itself sees.terminal.node.plan.sn n range.0)
        key_is (written.0 ∙ (λ i. written_pdu (sn_of s (key_is i).ue) (says i)))

    next_reads : Reads Dl
    next_reads = by order.aired (ap (map pdu_of) (sym flying_is) ∙ order.on_radio)
      where
        by : (ps : List (List ℕ)) → map pdu_of (item ∷ fl) ≡ pdus_from n ps → Reads Dl
        by [] e = absurd cc
        by (p ∷ more) e = let says : item.content.says ≡ packet_pdu n p = cc in awaited p says

  by_flying : (v : View) (sees : Sees s ue bearer v) (n : ℕ) (left : List (List ℕ)) (order : IsInOrder v n left) (fl : List OnRadio) → order.flying ≡ fl
      → nth fl 0 ≡ Some item → Reads Dl
  by_flying v sees n left order [] is next = absurd cc
  by_flying v sees n left order (x ∷ fl) is next =
      let same : x ≡ item = cc in next_reads v sees n left order fl (is ∙ ap (λ (y : OnRadio). y ∷ fl) same)

  by_stage : (n : ℕ) (left : List (List ℕ)) → Stage s ue bearer n left
      → nth (radio_of s (entity ue bearer Dl)).items (radio_of s (entity ue bearer Dl)).carried ≡ Some item → Reads Dl
  by_stage n left (comes plan absent none first empty) next =
      let clash : None ≡ Some item = sym (ap (λ (r : Radio (Written Pdu)). nth r.items r.carried) none.2) ∙ next in absurd cc
  by_stage n left (lacks l none first) next =
      let clash : None ≡ Some item = sym (ap (λ (r : Radio (Written Pdu)). nth r.items r.carried) none.2) ∙ next in absurd cc
  by_stage n left (stands v sees fit order) next =
      by_flying v sees n left order order.flying refl
      (sym (ap (λ (r : Radio (Written Pdu)). nth r.items r.carried) sees.radio ∙ ap (λ (is : List OnRadio). nth is v.radio.carried) order.radio_is
      ∙ nth_after order.known order.flying v.radio.carried order.carried_is) ∙ next)

  pub carries_alike : (dir : Dir) → nth (radio_of s (entity ue bearer dir)).items (radio_of s (entity ue bearer dir)).carried ≡ Some item → Reads dir
  carries_alike Dl next = by_stage (all ue bearer).delivered (all ue bearer).left (all ue bearer).stage next
  carries_alike Ul next =
      let silence = silent_up s ue bearer (all ue bearer).delivered (all ue bearer).left (all ue bearer).stage in
      let clash : None ≡ Some item = sym (ap (λ (r : Radio (Written Pdu)). nth r.items r.carried) silence) ∙ next in
      absurd cc
