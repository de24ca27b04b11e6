-- What a radio carries down in such a run is delivered, as the next packet of those offered.
use Rattle.std.proofs.Common.{◌≡◌, ◌==◌, ◌≤◌, ℕ, ◌+◌, true, false, List, [], ◌∷◌, ◌++◌, length, map, Some, None, slice_get, refl, sym, ap, ◌∙◌, subst, arith}
use Rattle.std.specs.Prelude.{nat_le}
use Rattle.std.specs.List.{AllByRecursion}
use Rattle.gnb_types.specs.declared.names.NodeId.{NodeId}
use Rattle.gnb_types.specs.declared.names.UeId.{UeId}
use Rattle.gnb_types.specs.declared.names.BearerId.{BearerId}
use Rattle.gnb_types.specs.declared.names.Dir.TheVariants.{Dl}
use Rattle.gnb_types.specs.declared.keys.EntityKey.{EntityKey}
use Rattle.gnb_types.specs.Orders.{bearer_cmp}
use Rattle.tables.specs.Tables.{find}
use Rattle.message_types.specs.declared.rrc.Token.{Token}
use Rattle.scenario_text.specs.declared.event.Event.{Event}
use Rattle.scenario_text.specs.declared.event.Event.TheVariants.{Air}
use Rattle.pdcp_defs.specs.Receivers.{Receiver, is_ahead}
use Rattle.unit_defs.specs.Ways.{Message, Pdu, packet_pdu, Load}
use Rattle.unit_defs.specs.Ue.{UeNode}
use Rattle.transport_defs.specs.Links.{Radio, most_control_messages, nth}
use Rattle.run_defs.specs.Units.{ue_of}
use Rattle.run_defs.specs.Written.{Written}
use Rattle.run_defs.specs.States.{new_state, entity, has_bearer, radio_of}
use Rattle.run_defs.specs.Conditions.{ready_home}
use Rattle.run_defs.specs.Said.{Delivered}
use Rattle.run_defs.specs.Runs.{Reading, Happened, plain_world, happens, run_from, run, Run}
use Rattle.proof_run_steps.specs.steps.Reached.{reached}
use Rattle.law_downlink_scripts.specs.delivers.Awaited.{Awaits, DeliversIn}
use Rattle.law_downlink_scripts.proofs.delivers.Runs.{air_delivers}
use Rattle.proof_run_steps.proofs.law_run_links.Links.{few_in_run, first_few}
use Rattle.law_downlink_scripts.proofs.downlink_only_facts.Views.{PlainState, OnRadio, View, pdu_of, pdus_from, Sees, IsInOrder, Stage, comes, lacks, stands}
use Rattle.law_downlink_scripts.proofs.downlink_only_steps.Ues.{nth_after}
use Rattle.law_downlink_scripts.specs.downlink_only_runs.Scripts.{IsDownlinkOnly}
use Rattle.law_downlink_scripts.proofs.downlink_only_runs.First.{at_first}
use Rattle.law_downlink_scripts.specs.downlink_only_counts.Placed.{DeliversNext}
use Rattle.law_downlink_scripts.proofs.downlink_only_counts.After.{StandAfter, after}
use Rattle.law_downlink_scripts.proofs.downlink_only_counts.Lists.{at_place}

not_ahead : (quota : ℕ) (r : Receiver (List ℕ)) (n count : ℕ) → r ≡ record { deliv = n; stored = [] } → count ≡ n → quota == 0 ≡ false → is_ahead quota r count ≡ false
unfolding is_ahead
not_ahead quota r n count is same some =
    ap (λ (x : Receiver (List ℕ)). nat_le (x.deliv + quota) count) is ∙ below quota n count same some
  where
    below : (q m c : ℕ) → c ≡ m → q == 0 ≡ false → nat_le (m + q) c ≡ false
    below q m c e f = grind arith

module _ (reading : Reading) (t : PlainState) (happened : List (Happened (Message Token))) (h : StandAfter new_state at_first t happened)
    (few : length t.bag.control_messages ≤ most_control_messages) (ue : UeId) (bearer : BearerId) (home : NodeId) (item : OnRadio) (u : UeNode) (has : has_bearer t ue bearer ≡ true)
    (ready : ready_home t ue ≡ Some home)
    (found : nth (radio_of t (entity ue bearer Dl)).items (radio_of t (entity ue bearer Dl)).carried ≡ Some item) (there : ue_of t.units ue ≡ Some u)
    (some : u.plan.quota == 0 ≡ false) where
  abbrev key : EntityKey
  key = entity ue bearer Dl

  abbrev Next : Type 0
  Next = DeliversNext (entity ue bearer Dl) happened (happens (plain_world reading) (Air ue bearer Dl) t)

  nothing_there : (radio_of t key) ≡ record { items = []; carried = 0 } → Next
  nothing_there silent = let clash : None ≡ Some item = sym (ap (λ (r : Radio (Written Pdu)). nth r.items r.carried) silent) ∙ found in absurd cc

  module _ (v : View) (sees : Sees t ue bearer v) (order : IsInOrder v (h.standing ue bearer).delivered (h.standing ue bearer).left) where
    first : nth order.flying 0 ≡ Some item
    first =
        sym (ap (λ (r : Radio (Written Pdu)). nth r.items r.carried) sees.radio ∙ ap (λ (is : List OnRadio). nth is v.radio.carried) order.radio_is
        ∙ nth_after order.known order.flying v.radio.carried order.carried_is) ∙ found

    node_is : sees.terminal.node ≡ u
    node_is = let e : Some sees.terminal.node ≡ Some u = sym sees.terminal.there ∙ there in cc

    count_is : (h.standing ue bearer).delivered ≡ length (Delivered key happened)
    count_is = omega (arith, h.further ue bearer)

    theirs : (known flying : List OnRadio) → AllByRecursion (λ (i : OnRadio). i.key ≡ key) (known ++ flying) → nth flying 0 ≡ Some item → item.key ≡ key
    theirs [] [] p e = absurd cc
    theirs [] (i ∷ is) p e = let same : i ≡ item = cc in ap (λ (x : OnRadio). x.key) (sym same) ∙ p.0
    theirs (k ∷ ks) flying p e = theirs ks flying p.1 e

    delivers_it : (packet : List ℕ) (more : List (List ℕ)) → order.aired ≡ packet ∷ more → item.content.says ≡ packet_pdu (h.standing ue bearer).delivered packet → Next
    delivers_it packet more aired_is says = (
      packet,
      ap (λ (ps : List (List ℕ)). slice_get ps (length (Delivered key happened)))
          (sym (ap (λ (ps : List (List ℕ)). Delivered key happened ++ ps) (sym (order.left_is
          ∙ ap (λ (ps : List (List ℕ)). ps ++ (order.framed ++ (v.up.bearer.waiting ++ order.offered))) aired_is)) ∙ h.packets ue bearer))
          ∙ at_place (Delivered key happened) packet (more ++ (order.framed ++ (v.up.bearer.waiting ++ order.offered))) (length (Delivered key happened)) refl,
      subst (λ (who : UeId). DeliversIn (entity who bearer Dl) (length (Delivered key happened)) packet (happens (plain_world reading) (Air ue bearer Dl) t))
          (ap (λ (x : UeNode). x.plan.ue) (sym node_is) ∙ sees.terminal.own)
          (air_delivers reading t ue bearer home item u (length (Delivered key happened)) packet few has ready found
          (theirs order.known order.flying (subst (AllByRecursion (λ (i : OnRadio). i.key ≡ key)) order.radio_is sees.theirs) first)
          (says ∙ ap (λ (c : ℕ). packet_pdu c packet) count_is) there (record {
            there = v.bearer;
            has = ap (λ (x : UeNode). find bearer_cmp x.bearers bearer) (sym node_is) ∙ sees.terminal.has;
            awaits = subst (λ (r : Receiver (List ℕ)). Awaits r (length (Delivered key happened))) (sym order.receiver) (sym count_is, tt);
            room = not_ahead u.plan.quota v.bearer.receiver (h.standing ue bearer).delivered (length (Delivered key happened)) order.receiver (sym count_is) some;
          })),
    )

    by_aired : (ps : List (List ℕ)) → order.aired ≡ ps → (is : List OnRadio) → map pdu_of is ≡ pdus_from (h.standing ue bearer).delivered ps → nth is 0 ≡ Some item → Next
    by_aired ps aired_is [] e one = absurd cc
    by_aired [] aired_is (i ∷ is) e one = absurd cc
    by_aired (p ∷ more) aired_is (i ∷ is) e one =
        let same : i ≡ item = cc in
        let said : i.content.says ≡ packet_pdu (h.standing ue bearer).delivered p = cc in
        delivers_it p more aired_is (ap (λ (x : OnRadio). x.content.says) (sym same) ∙ said)

    next : Next
    next = by_aired order.aired refl order.flying order.on_radio first

  of_stage : (n : ℕ) (left : List (List ℕ)) → Stage t ue bearer n left → (h.standing ue bearer).delivered ≡ n → (h.standing ue bearer).left ≡ left → Next
  of_stage n left (comes plan absent none started empty) n_is left_is = nothing_there none.2
  of_stage n left (lacks l none started) n_is left_is = nothing_there none.2
  of_stage n left (stands v sees fit order) n_is left_is =
      next v sees (subst (λ (k : ℕ × List (List ℕ)). IsInOrder v k.0 k.1) (λ i. (sym n_is i, sym left_is i)) order)

pub next_in_runs : (reading : Reading) (events : List Event) → AllByRecursion IsDownlinkOnly events → (t : PlainState)
    → reached (plain_world reading) events new_state ≡ Some t → (ue : UeId) (bearer : BearerId) (home : NodeId) (item : OnRadio) (u : UeNode)
    → has_bearer t ue bearer ≡ true → ready_home t ue ≡ Some home
    → nth (radio_of t (entity ue bearer Dl)).items (radio_of t (entity ue bearer Dl)).carried ≡ Some item → ue_of t.units ue ≡ Some u
    → u.plan.quota == 0 ≡ false
    → DeliversNext (entity ue bearer Dl) (Run reading events).events (happens (plain_world reading) (Air ue bearer Dl) t)
unfolding Run run
next_in_runs reading events are t is ue bearer home item u has ready found there some =
    let h = after reading events are [] new_state refl at_first t is in
    of_stage reading t (run_from (plain_world reading) events new_state).events h
    (few_in_run reading events new_state t (first_few (Message Token) Token (Written (Load Pdu)) (Written Pdu)) is) ue bearer home item u has ready found there some
    (h.standing ue bearer).delivered (h.standing ue bearer).left (h.standing ue bearer).stage refl refl
