-- In every run the lines of each step tell what was put with its facts.
use Rattle.std.proofs.Common.{◌≡◌, ℕ, Bool, true, false, List, [], ◌∷◌, ◌++◌, Option, Some, None, inl, inr, refl, subst}
use Rattle.std.specs.Prelude.{if◌then◌else◌}
use Rattle.std.specs.List.{AllByRecursion, list_any, flat_map}
use Rattle.gnb_types.specs.declared.names.NodeId.{NodeId}
use Rattle.gnb_types.specs.declared.names.NodeId.TheVariants.{CuCp, CuUp, Du, Core, Ue}
use Rattle.gnb_types.specs.declared.names.UeId.{UeId}
use Rattle.gnb_types.specs.declared.names.Dir.TheVariants.{Dl}
use Rattle.gnb_types.specs.declared.keys.EntityKey.{EntityKey}
use Rattle.gnb_types.specs.declared.keys.TunnelEnd.{TunnelEnd}
use Rattle.gnb_types.specs.Orders.{ue_cmp, tunnel_cmp}
use Rattle.tables.specs.Tables.{find, at}
use Rattle.scenario_text.specs.declared.event.Event.{Event}
use Rattle.unit_defs.specs.Ways.{Put, control, packet, radio, deliver, dropped, held, opened, closed, failed, no}
use Rattle.unit_defs.specs.Messages.{teid_of}
use Rattle.transport_defs.specs.declared.Item.{Item}
use Rattle.transport_defs.specs.Links.{is_epoch, emptied, control_message}
use Rattle.run_defs.specs.Lines.{RunLine, put_item, lost_items, is_quiet, is_busy, has_settled, has_not_settled, was_refused, tunnel_link, radio_link, shown}
use Rattle.run_defs.specs.States.{State, World, Stop, goes, stops, told_before, ◌next◌, goes_on, Within, Outcome, as_step, entity, radio_of, with_radio, sn_of, stepped, control_message_for, octets_from}
use Rattle.run_defs.specs.Steps.{first_outstanding, entities_of, checked_by, check_spans, noted, count_beside, item_of, on_tunnel, put_on_tunnel, put_on_connected, put_on_radio, put_control, opens, closes, lost_if, radio_lost, lose_each, lose_radios_of, lose_radios, radios_of, same_epoch, epoch_now, connect_in, reconnect, reconnect_node, put_out, put_out_all, carried_out}
use Rattle.run_defs.specs.Local.{puts_something}
use Rattle.run_defs.specs.Events.{landed_as, offered}
use Rattle.run_defs.specs.Runs.{Happened, happens, run_on, run_from}
use Rattle.run_defs.specs.Units.{Units}
use Rattle.std.specs.Ordering.{nat_cmp}
use Rattle.proof_run_steps.proofs.facts.Within.{all_both, HoldsWith, same_links}
use Rattle.proof_run_steps.proofs.facts.Steps.{found_has, taken_fits}
use Rattle.proof_run_steps.proofs.facts.Runs.{made_holds}
use Rattle.proof_run_steps.specs.steps.Causes.{Cause, by_order, by_tick, by_octets, by_octets_on, by_attach, by_release, by_offer, by_item, by_air, by_ack, by_control_message, node_of, given_of, count_of, first_of, Stands}
use Rattle.proof_run_steps.specs.steps.IsOutcome.{IsRemark, IsOutcome, stays, ends, then_made, sets_up, starts, acts, holds_item, holds_pdu, offers, core_takes, core_reads, lands, loses_control_message, loses_item, remarks}
use Rattle.proof_run_steps.proofs.steps.Runs.{made_of_steps}
use Rattle.proof_run_steps.specs.facts.Facts.{Facts, Hold, PutFits, PutsFit, AreKept}
use Rattle.proof_run_steps.specs.facts.TellFacts.{Tells, StepTells}

module _ {M C L P : Type 0} (world : World M C L P) (facts : Facts M C L P) where
  module _ (actor : NodeId) where
    abbrev Says : Within M C L P → Type 0
    Says (goes lines t) = AllByRecursion (Tells world facts actor) lines
    Says (stops lines why) = AllByRecursion (Tells world facts actor) lines

    abbrev SaysAll : (State M C L P → Within M C L P) → Type 0
    SaysAll f = (t : State M C L P) → Says (f t)

    then_says : (e : Within M C L P) (f : State M C L P → Within M C L P) → Says e → SaysAll f → Says (e next f)
    then_says (goes lines t) f p q = by (f t) (q t)
      where
        by : (e : Within M C L P) → Says e → Says (told_before lines e)
        by (goes more s) h = all_both (Tells world facts actor) lines more p h
        by (stops more why) h = all_both (Tells world facts actor) lines more p h
    then_says (stops lines why) f p q = p

    checked_says : SaysAll check_spans
    unfolding check_spans
    checked_says s = by (first_outstanding s (flat_map entities_of s.plans))
      where
        by : (o : Option Stop) → Says (checked_by s o)
        by None = tt
        by (Some why) = tt

    on_says : (s : State M C L P) (end : TunnelEnd) (item : Item L) (o : Option (List (Item L))) → Says (on_tunnel world s end item o)
    on_says s end item None = (tt, tt)
    on_says s end item (Some items) = tt

    tunnel_says : (end : TunnelEnd) (item : Item L) → facts.puts_on actor end item → SaysAll (put_on_tunnel world end item)
    unfolding put_on_tunnel
    tunnel_says end item is s =
        then_says (goes (put_item (tunnel_link end) (shown item.key item.count (world.show_item item.content)) ∷ []) s)
        (λ t. on_tunnel world t end item (find tunnel_cmp t.tunnels end))
        (inl (record { end = end; stood = item; on = refl; shows = refl; is = is }), tt)
        (λ t. on_says t end item (find tunnel_cmp t.tunnels end))

    connected_says : (key : EntityKey) (epoch : ℕ) (item : Item P) → SaysAll (put_on_connected world key epoch item)
    connected_says key epoch item s = by (is_epoch (find ue_cmp s.connected key.ue) epoch)
      where
        by : (t : Bool) → Says (if t
            then goes_on (with_radio key (record (radio_of s key) { items = (radio_of s key).items ++ item ∷ [] }) s)
            else goes (lost_items (radio_link key epoch) 1 ∷ []) s)
        by true = tt
        by false = (tt, tt)

    radio_says : (epoch : ℕ) (item : Item P) → facts.puts_on_air actor item.key item → SaysAll (put_on_radio world epoch item)
    unfolding put_on_radio
    radio_says epoch item is s =
        then_says (goes (put_item (radio_link item.key epoch) (shown item.key item.count (world.show_pdu item.content)) ∷ []) s)
        (put_on_connected world item.key epoch item)
        (inr (record { epoch = epoch; stood = item; on = refl; shows = refl; is = is }), tt) (connected_says item.key epoch item)

    lost_says : {X : Type 0} (end : TunnelEnd) (xs : List X) → AllByRecursion (Tells world facts actor) (lost_if world end xs)
    lost_says end [] = tt
    lost_says end (x ∷ xs) = (tt, tt)

    radio_lost_says : (epoch : ℕ) (key : EntityKey) (items : List (Item P)) → AllByRecursion (Tells world facts actor) (radio_lost world epoch key items)
    radio_lost_says epoch key [] = tt
    radio_lost_says epoch key (item ∷ items) = (tt, tt)

    lose_each_says : (epoch : ℕ) (keys : List EntityKey) → SaysAll (lose_each world epoch keys)
    lose_each_says epoch [] s = tt
    lose_each_says epoch (key ∷ keys) s =
        then_says (goes (radio_lost world epoch key (radio_of s key).items) (record s { radios = emptied s.radios key })) (lose_each world epoch keys)
        (radio_lost_says epoch key (radio_of s key).items) (lose_each_says epoch keys)

    lose_of_says : (ue : UeId) (o : Option ℕ) → SaysAll (lose_radios_of world ue o)
    lose_of_says ue None s = tt
    lose_of_says ue (Some epoch) s = lose_each_says epoch (radios_of world ue s.radios) s

    lose_says : (ue : UeId) → SaysAll (lose_radios world ue)
    unfolding lose_radios
    lose_says ue s = lose_of_says ue (find ue_cmp s.connected ue) s

    reconnect_says : (ue : UeId) → SaysAll (reconnect world ue)
    reconnect_says ue s = by (same_epoch world (find ue_cmp s.connected ue) (epoch_now world s ue))
      where
        by : (t : Bool) → Says (if t then goes_on s
            else (lose_radios world ue s next (λ t. goes_on (connect_in world ue (epoch_now world s ue) t))))
        by true = tt
        by false = then_says (lose_radios world ue s) (λ t. goes_on (connect_in world ue (epoch_now world s ue) t)) (lose_says ue s) (λ t. tt)

    node_says : (node : NodeId) → SaysAll (reconnect_node world node)
    node_says (Ue ue) s = reconnect_says (record { 0 = ue }) s
    node_says (CuCp gnb) s = tt
    node_says (CuUp gnb number) s = tt
    node_says (Du gnb number) s = tt
    node_says Core s = tt

    put_says : (taken : Option ℕ) (output : Put M L P) → PutFits facts actor taken output → SaysAll (put_out world actor taken output)
    unfolding put_control opens closes
    put_says taken (control to ue message) is s = ((refl, is), tt)
    put_says taken (packet to teid ue bearer dir tag load) is s =
        tunnel_says (record { node = to; teid = teid }) (item_of world ue bearer dir (count_beside tag taken) load) is (noted (entity ue bearer dir) tag s)
    put_says taken (radio ue bearer dir epoch tag pdu) is s =
        radio_says epoch (item_of world ue bearer dir (count_beside tag taken) pdu) is (noted (entity ue bearer dir) tag s)
    put_says taken (deliver ue bearer dir count p) is s = (tt, tt)
    put_says taken (dropped reason) is s = (tt, tt)
    put_says taken (opened teid) is s = tt
    put_says taken (closed teid) is s =
        lost_says (record { node = actor; teid = teid }) (at tunnel_cmp [] s.tunnels (record { node = actor; teid = teid }))
    put_says taken (failed ue cause) is s = (tt, tt)
    put_says taken (held reason) is s = tt
    put_says taken (no reason) is s = tt

    puts_say : (taken : Option ℕ) (outputs : List (Put M L P)) → PutsFit facts actor taken outputs → SaysAll (put_out_all world actor taken outputs)
    unfolding put_out_all
    puts_say taken [] all s = tt
    puts_say taken (output ∷ outputs) all s =
        then_says (put_out world actor taken output s) (put_out_all world actor taken outputs) (put_says taken output all.0 s) (puts_say taken outputs all.1)

    first_says : (cause : Cause M L P) → SaysAll (first_of world cause)
    first_says (by_order node order) s = tt
    first_says (by_tick node) s = tt
    first_says (by_octets from to octets) s = tt
    first_says (by_octets_on end octets) s = tt
    first_says (by_attach plan) s = tt
    first_says (by_release gnb ue) s =
        then_says (lose_radios world ue s) (λ t. goes_on (record (connect_in world ue None t) { gone = t.gone ++ ue ∷ [] })) (lose_says ue s) (λ t. tt)
    first_says (by_offer ue bearer p) s = tt
    first_says (by_item end item rest) s = (tt, tt)
    first_says (by_air key home item) s = (tt, tt)
    first_says (by_ack key home item rest) s = tt
    first_says (by_control_message number l to) s = (tt, tt)

  -- ---- a step, and an event

  abbrev pub OutcomeTells : Outcome M C L P → Type 0
  OutcomeTells (goes steps t) = AllByRecursion (StepTells world facts) steps
  OutcomeTells (stops steps why) = AllByRecursion (StepTells world facts) steps

  step_tells : (actor : NodeId) (w : Within M C L P) → Says actor w → OutcomeTells (as_step (Some actor) w)
  step_tells actor (goes lines t) p = (p, tt)
  step_tells actor (stops lines why) p = (p, tt)

  remarks_put_none : (lines : List (RunLine M)) → AllByRecursion IsRemark lines → list_any puts_something lines ≡ false
  remarks_put_none [] all = refl
  remarks_put_none (is_quiet ue bearer down up ∷ lines) all = remarks_put_none lines all.1
  remarks_put_none (is_busy ue bearer ∷ lines) all = remarks_put_none lines all.1
  remarks_put_none (has_settled rounds ∷ lines) all = remarks_put_none lines all.1
  remarks_put_none (has_not_settled rounds ∷ lines) all = remarks_put_none lines all.1
  remarks_put_none (was_refused reason ∷ lines) all = remarks_put_none lines all.1
  remarks_put_none (line ∷ lines) all = absurd all.0

  then_tells : (e : Outcome M C L P) (more : State M C L P → Outcome M C L P) → OutcomeTells e → HoldsWith world facts 0 e
      → ((t : State M C L P) → Hold facts t → OutcomeTells (more t)) → OutcomeTells (e next more)
  then_tells (goes steps t) more p h q = by (more t) (q t h)
    where
      by : (e : Outcome M C L P) → OutcomeTells e → OutcomeTells (told_before steps e)
      by (goes further s) r = all_both (StepTells world facts) steps further p r
      by (stops further why) r = all_both (StepTells world facts) steps further p r
  then_tells (stops steps why) more p h q = p

  module _ (kept : AreKept world facts) where
    act_says : (event : Event) (cause : Cause M L P) (outputs : List (Put M L P)) (u : Units M C) (s : State M C L P) → Hold facts s
        → Stands event s cause → world.answer (sn_of s) s.units (node_of cause) (given_of cause) ≡ stepped outputs u
        → Says (node_of cause) (carried_out world (node_of cause) (count_of cause) (first_of world cause) outputs u s)
    act_says event cause outputs u s h at is =
        let node : NodeId = node_of cause in
        let t : State M C L P = record s { units = u } in
        let answered = kept.answers (sn_of s) s.units u node (count_of cause) (given_of cause) outputs h.units (taken_fits world facts kept event cause s h at) is in
        then_says node (first_of world cause t next reconnect_node world node next put_out_all world node (count_of cause) outputs) check_spans
        (then_says node (first_of world cause t next reconnect_node world node) (put_out_all world node (count_of cause) outputs)
        (then_says node (first_of world cause t) (reconnect_node world node) (first_says node cause t) (node_says node node))
        (puts_say node (count_of cause) outputs answered.1)) (checked_says node)

    core_says : (outputs : List (Put M L P)) (e : Within M C L P) → Says Core e → PutsFit facts Core None outputs
        → OutcomeTells (as_step (Some Core) (e next put_out_all world Core None outputs next check_spans))
    core_says outputs e p fits =
        step_tells Core (e next put_out_all world Core None outputs next check_spans)
        (then_says Core (e next put_out_all world Core None outputs) check_spans
        (then_says Core e (put_out_all world Core None outputs) p (puts_say Core None outputs fits)) (checked_says Core))

    pub made_tells : (event : Event) (s : State M C L P) (e : Outcome M C L P) → IsOutcome world event s e → Hold facts s → OutcomeTells e
    unfolding control_message
    made_tells event s e (stays t) h = tt
    made_tells event s e (ends t why) h = tt
    made_tells event s e (then_made t d more p q) h =
        then_tells d more (made_tells event t d p h) (made_holds world facts kept event t d p h) (λ x k. made_tells event x (more x) (q x) k)
    made_tells event s e (sets_up t plan is free room teids) h = tt
    made_tells event s e (starts t d p) h =
        made_tells event (record t { started = true }) d p (same_links world facts 0 t (record t { started = true }) h refl refl refl refl refl)
    made_tells event s e (acts t cause outputs units at is fine few) h =
        step_tells (node_of cause) _ (act_says event cause outputs units t h at is)
    made_tells event s e (holds_item t end reason) h = ((tt, tt), tt)
    made_tells event s e (holds_pdu t key home reason) h = ((tt, tt), tt)
    made_tells event s e (offers t ue bearer p path is found) h =
        let end : TunnelEnd = record { node = path.up; teid = teid_of path.n3 bearer } in
        let item : Item L = record { key = entity ue bearer Dl; count = None; content = world.lay_n3 (teid_of path.n3 bearer) p } in
        step_tells Core (put_on_tunnel world end item (offered world (entity ue bearer Dl) t) next check_spans)
        (then_says Core (put_on_tunnel world end item (offered world (entity ue bearer Dl) t)) check_spans
        (tunnel_says Core end item (kept.lays t.core ue bearer p path h.core found) (offered world (entity ue bearer Dl) t)) (checked_says Core))
    made_tells event s e (core_takes t number l outputs core found at is few) h =
        let answered = kept.core_answers (sn_of t) t.core core (control_message_for l.from l.message) outputs h.core (
          l.ue,
          subst (λ (n : NodeId). facts.control_message (record { from = l.from; to = n; ue = l.ue; message = l.message })) at
              (found_has nat_cmp facts.control_message t.bag.control_messages number l h.control_messages found),
        ) is in
        core_says outputs (landed_as world number l (record t { core = core })) (tt, tt) answered.1
    made_tells event s e (core_reads t from octets outputs core is) h =
        let answered = kept.core_answers (sn_of t) t.core core (octets_from from octets) outputs h.core tt is in
        step_tells Core (put_out_all world Core None outputs (record t { core = core }) next check_spans)
        (then_says Core (put_out_all world Core None outputs (record t { core = core })) check_spans (puts_say Core None outputs answered.1 (record t { core = core }))
        (checked_says Core))
    made_tells event s e (lands t number l to found at) h = ((tt, tt), tt)
    made_tells event s e (loses_control_message t number) h = (refl, tt)
    made_tells event s e (loses_item t end item rest found) h = (refl, tt)
    made_tells event s e (remarks t lines plain) h = (remarks_put_none lines plain, tt)

    -- ---- a run

    abbrev pub EventTells : Happened M → Type 0
    EventTells h = AllByRecursion (StepTells world facts) h.steps

    pub run_tells : (events : List Event) (s : State M C L P) → Hold facts s → AllByRecursion EventTells (run_from world events s).events
    unfolding run_from
    run_tells [] s h = tt
    run_tells (event ∷ events) s h =
        by (happens world event s) (made_tells event s (happens world event s) (made_of_steps world event s) h)
        (made_holds world facts kept event s (happens world event s) (made_of_steps world event s) h) (run_tells events)
      where
        by : (e : Outcome M C L P) → OutcomeTells e → HoldsWith world facts 0 e
            → ((t : State M C L P) → Hold facts t → AllByRecursion EventTells (run_from world events t).events)
            → AllByRecursion EventTells (run_on world event (run_from world events) e).events
        by (goes steps t) p k more = (p, more t k)
        by (stops steps why) p k more = (p, tt)
