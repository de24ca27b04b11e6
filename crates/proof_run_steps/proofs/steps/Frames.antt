-- What is done within a step, and by an event, to the units: only answers, a terminal that comes, and one that is set up without
-- messages change them.
use Rattle.std.proofs.Common.{◌≡◌, ℕ, Bool, true, false, ◌&&◌, List, [], ◌∷◌, ◌++◌, Option, Some, None, refl, sym, ◌∙◌, subst}
use Rattle.std.proofs.lemmas.Bool.{or_parts}
use Rattle.std.specs.Prelude.{if◌then◌else◌}
use Rattle.std.specs.List.{flat_map}
use Rattle.gnb_types.specs.declared.names.NodeId.{NodeId}
use Rattle.gnb_types.specs.declared.names.NodeId.TheVariants.{CuCp, CuUp, Du, Core, Ue}
use Rattle.gnb_types.specs.declared.names.UeId.{UeId}
use Rattle.gnb_types.specs.declared.keys.EntityKey.{EntityKey}
use Rattle.gnb_types.specs.declared.keys.TunnelEnd.{TunnelEnd}
use Rattle.gnb_types.specs.declared.plans.Plan.{Plan}
use Rattle.gnb_types.specs.declared.outputs.Tag.{Tag}
use Rattle.gnb_types.specs.declared.outputs.Tag.TheVariants.{Absent, Own, Same}
use Rattle.gnb_types.specs.Orders.{ue_cmp, tunnel_cmp}
use Rattle.tables.specs.Tables.{find, at}
use Rattle.scenario_text.specs.declared.event.Event.{Event}
use Rattle.unit_defs.specs.Ways.{Put, control, packet, radio, deliver, dropped, held, opened, closed, failed, no}
use Rattle.unit_defs.specs.Static.{cu_up_has_room, cu_up_has_teids, du_has_teids}
use Rattle.unit_defs.specs.Ue.{new_ue}
use Rattle.transport_defs.specs.declared.Item.{Item}
use Rattle.transport_defs.specs.Links.{is_epoch, emptied}
use Rattle.run_defs.specs.Lines.{RunLine, put_item, lost_items, tunnel_link, radio_link, shown}
use Rattle.run_defs.specs.Units.{Units, cu_up_of, du_of, with_ue}
use Rattle.run_defs.specs.States.{State, Given, stepped, World, Lengths, Stop, sn_of, goes, stops, told_before, ◌next◌, goes_on, Ending, Within, Outcome, as_step, entity, was_attached, radio_of, with_radio}
use Rattle.run_defs.specs.Steps.{first_outstanding, entities_of, checked_by, check_spans, noted, count_beside, item_of, on_tunnel, put_on_tunnel, put_on_connected, put_on_radio, put_control, opens, closes, radio_lost, lose_each, lose_radios_of, lose_radios, radios_of, same_epoch, epoch_now, connect_in, reconnect, reconnect_node, put_out, put_out_all, carried_out}
use Rattle.run_defs.specs.Conditions.{is_held_by_units, units_placed, all_set_up}
use Rattle.run_defs.specs.Events.{landed_as, leaves}
use Rattle.run_defs.specs.Runs.{happens}
use Rattle.proof_run_steps.specs.steps.Causes.{Cause, by_order, by_tick, by_octets, by_octets_on, by_attach, by_release, by_offer, by_item, by_air, by_ack, by_control_message, node_of, given_of, count_of, first_of}
use Rattle.proof_run_steps.specs.steps.IsOutcome.{IsOutcome, stays, ends, then_made, sets_up, starts, acts, holds_item, holds_pdu, offers, core_takes, core_reads, lands, loses_control_message, loses_item, remarks}
use Rattle.proof_run_steps.specs.steps.Reached.{reached_by, reached}
use Rattle.proof_run_steps.proofs.steps.Runs.{made_of_steps}

module _ {M C L P : Type 0} (world : World M C L P) where
  -- ---- within a step the units are these

  abbrev pub HasUnits : {X : Type 0} → Units M C → Ending X (State M C L P) → Type 0
  HasUnits u (goes told t) = t.units ≡ u
  HasUnits u (stops told why) = Unit {0}

  abbrev pub KeepsUnits : (State M C L P → Within M C L P) → Type 0
  KeepsUnits f = (t : State M C L P) → HasUnits t.units (f t)

  pub then_units : (u : Units M C) (e : Within M C L P) (f : State M C L P → Within M C L P) → HasUnits u e → KeepsUnits f → HasUnits u (e next f)
  then_units u (goes told t) f p q = by (f t) (q t)
    where
      by : (e : Within M C L P) → HasUnits t.units e → HasUnits u (told_before told e)
      by (goes more s) h = h ∙ p
      by (stops more why) h = tt
  then_units u (stops told why) f p q = tt

  pub keep_checked : KeepsUnits check_spans
  unfolding check_spans
  keep_checked s = by (first_outstanding s (flat_map entities_of s.plans))
    where
      by : (o : Option Stop) → HasUnits s.units (checked_by s o)
      by None = refl
      by (Some why) = tt

  keep_on_tunnel : (end : TunnelEnd) (item : Item L) (s : State M C L P) (o : Option (List (Item L))) → HasUnits s.units (on_tunnel world s end item o)
  keep_on_tunnel end item s None = refl
  keep_on_tunnel end item s (Some items) = refl

  pub keep_put_on_tunnel : (end : TunnelEnd) (item : Item L) → KeepsUnits (put_on_tunnel world end item)
  unfolding put_on_tunnel
  keep_put_on_tunnel end item s =
      then_units s.units (goes (put_item (tunnel_link end) (shown item.key item.count (world.show_item item.content)) ∷ []) s)
      (λ t. on_tunnel world t end item (find tunnel_cmp t.tunnels end)) refl
      (λ t. keep_on_tunnel end item t (find tunnel_cmp t.tunnels end))

  keep_connected : (key : EntityKey) (epoch : ℕ) (item : Item P) → KeepsUnits (put_on_connected world key epoch item)
  keep_connected key epoch item s = by (is_epoch (find ue_cmp s.connected key.ue) epoch)
    where
      by : (t : Bool) → HasUnits {X = RunLine M} s.units (if t
          then goes_on (with_radio key (record (radio_of s key) { items = (radio_of s key).items ++ item ∷ [] }) s)
          else goes (lost_items (radio_link key epoch) 1 ∷ []) s)
      by true = refl
      by false = refl

  keep_put_on_radio : (epoch : ℕ) (item : Item P) → KeepsUnits (put_on_radio world epoch item)
  unfolding put_on_radio
  keep_put_on_radio epoch item s =
      then_units s.units (goes (put_item (radio_link item.key epoch) (shown item.key item.count (world.show_pdu item.content)) ∷ []) s)
      (put_on_connected world item.key epoch item) refl (keep_connected item.key epoch item)

  noted_units : (key : EntityKey) (tag : Tag) (s : State M C L P) → (noted key tag s).units ≡ s.units
  noted_units key Absent s = refl
  noted_units key (Own count) s = refl
  noted_units key Same s = refl

  keep_put : (node : NodeId) (taken : Option ℕ) (output : Put M L P) → KeepsUnits (put_out world node taken output)
  unfolding put_control opens closes
  keep_put node taken (control to ue message) s = refl
  keep_put node taken (packet to teid ue bearer dir tag load) s =
      subst (λ (u : Units M C). HasUnits u (put_out world node taken (packet to teid ue bearer dir tag load) s)) (noted_units (entity ue bearer dir) tag s)
      (keep_put_on_tunnel (record { node = to; teid = teid }) (item_of world ue bearer dir (count_beside tag taken) load) (noted (entity ue bearer dir) tag s))
  keep_put node taken (radio ue bearer dir epoch tag pdu) s =
      subst (λ (u : Units M C). HasUnits u (put_out world node taken (radio ue bearer dir epoch tag pdu) s)) (noted_units (entity ue bearer dir) tag s)
      (keep_put_on_radio epoch (item_of world ue bearer dir (count_beside tag taken) pdu) (noted (entity ue bearer dir) tag s))
  keep_put node taken (deliver ue bearer dir count p) s = refl
  keep_put node taken (dropped reason) s = refl
  keep_put node taken (opened teid) s = refl
  keep_put node taken (closed teid) s = refl
  keep_put node taken (failed ue cause) s = refl
  keep_put node taken (held reason) s = refl
  keep_put node taken (no reason) s = refl

  pub keep_put_all : (node : NodeId) (taken : Option ℕ) (outputs : List (Put M L P)) → KeepsUnits (put_out_all world node taken outputs)
  unfolding put_out_all
  keep_put_all node taken [] s = refl
  keep_put_all node taken (output ∷ outputs) s =
      then_units s.units (put_out world node taken output s) (put_out_all world node taken outputs) (keep_put node taken output s)
      (keep_put_all node taken outputs)

  keep_lose_each : (epoch : ℕ) (keys : List EntityKey) → KeepsUnits (lose_each world epoch keys)
  keep_lose_each epoch [] s = refl
  keep_lose_each epoch (key ∷ keys) s =
      then_units s.units (goes (radio_lost world epoch key (radio_of s key).items) (record s { radios = emptied s.radios key }))
      (lose_each world epoch keys) refl (keep_lose_each epoch keys)

  keep_lose_of : (ue : UeId) (o : Option ℕ) → KeepsUnits (lose_radios_of world ue o)
  keep_lose_of ue None s = refl
  keep_lose_of ue (Some epoch) s = keep_lose_each epoch (radios_of world ue s.radios) s

  keep_lose : (ue : UeId) → KeepsUnits (lose_radios world ue)
  unfolding lose_radios
  keep_lose ue s = keep_lose_of ue (find ue_cmp s.connected ue) s

  keep_reconnect : (ue : UeId) → KeepsUnits (reconnect world ue)
  keep_reconnect ue s = by (same_epoch world (find ue_cmp s.connected ue) (epoch_now world s ue))
    where
      by : (t : Bool) → HasUnits s.units (if t then goes_on s
          else (lose_radios world ue s next (λ t. goes_on (connect_in world ue (epoch_now world s ue) t))))
      by true = refl
      by false = then_units s.units (lose_radios world ue s) (λ t. goes_on (connect_in world ue (epoch_now world s ue) t)) (keep_lose ue s) (λ t. refl)

  keep_reconnect_node : (node : NodeId) → KeepsUnits (reconnect_node world node)
  keep_reconnect_node (Ue ue) s = keep_reconnect (record { 0 = ue }) s
  keep_reconnect_node (CuCp gnb) s = refl
  keep_reconnect_node (CuUp gnb number) s = refl
  keep_reconnect_node (Du gnb number) s = refl
  keep_reconnect_node Core s = refl

  keep_leaves : (ue : UeId) → KeepsUnits (leaves world ue)
  keep_leaves ue s =
      then_units s.units (lose_radios world ue s) (λ t. goes_on (record (connect_in world ue None t) { gone = t.gone ++ ue ∷ [] })) (keep_lose ue s)
      (λ t. refl)

  -- the units of a step are those of its answer; a terminal may come beside
  abbrev pub units_by : Cause M L P → Units M C → Units M C
  units_by (by_attach plan) units = with_ue units plan.ue (new_ue plan)
  units_by cause units = units

  first_units : (cause : Cause M L P) (s : State M C L P) → HasUnits (units_by cause s.units) (first_of world cause s)
  first_units (by_order node order) s = refl
  first_units (by_tick node) s = refl
  first_units (by_octets from to octets) s = refl
  first_units (by_octets_on end octets) s = refl
  first_units (by_attach plan) s = refl
  first_units (by_release gnb ue) s = keep_leaves ue s
  first_units (by_offer ue bearer p) s = refl
  first_units (by_item end item rest) s = refl
  first_units (by_air key home item) s = refl
  first_units (by_ack key home item rest) s = refl
  first_units (by_control_message number l to) s = refl

  pub act_units : (cause : Cause M L P) (outputs : List (Put M L P)) (units : Units M C) (s : State M C L P)
      → HasUnits (units_by cause units) (carried_out world (node_of cause) (count_of cause) (first_of world cause) outputs units s)
  act_units cause outputs units s =
      let u = units_by cause units in
      let first : Within M C L P = first_of world cause (record s { units = units }) in
      then_units u (first next reconnect_node world (node_of cause) next put_out_all world (node_of cause) (count_of cause) outputs) check_spans
      (then_units u (first next reconnect_node world (node_of cause)) (put_out_all world (node_of cause) (count_of cause) outputs)
      (then_units u first (reconnect_node world (node_of cause)) (first_units cause (record s { units = units })) (keep_reconnect_node (node_of cause)))
      (keep_put_all (node_of cause) (count_of cause) outputs))
      keep_checked

  as_step_units : (u : Units M C) (actor : Option NodeId) (w : Within M C L P) → HasUnits u w → HasUnits u (as_step actor w)
  as_step_units u actor (goes lines t) p = p
  as_step_units u actor (stops lines why) p = tt

  -- ---- what holds of answers, of a terminal that comes and of one that is set up, and of one after another, holds of events

  module _ (R : Units M C → Units M C → Type 0) (same : (u : Units M C) → R u u)
      (joined : (u v w : Units M C) → R u v → R v w → R u w)
      (answered : (lengths : Lengths) (u v : Units M C) (node : NodeId) (given : Given M L P) (outputs : List (Put M L P))
      → world.answer lengths u node given ≡ stepped outputs v → R u v)
      (came : (u : Units M C) (plan : Plan) → R u (with_ue u plan.ue (new_ue plan)))
      (placed : (u : Units M C) (plan : Plan) → is_held_by_units plan u ≡ false → cu_up_has_room (cu_up_of u plan.gnb plan.up) plan ≡ true
      → cu_up_has_teids (cu_up_of u plan.gnb plan.up) plan && du_has_teids (du_of u plan.gnb plan.du) plan ≡ true → R u (all_set_up (units_placed plan u))) where
    abbrev pub Relates : {X : Type 0} → Units M C → Ending X (State M C L P) → Type 0
    Relates u (goes told t) = R u t.units
    Relates u (stops told why) = Unit {0}

    by_units : {X : Type 0} (u v : Units M C) (e : Ending X (State M C L P)) → R u v → HasUnits v e → Relates u e
    by_units u v (goes told t) p q = subst (λ (w : Units M C). R u w) (sym q) p
    by_units u v (stops told why) p q = tt

    with_terminals : (cause : Cause M L P) (u : Units M C) → R u (units_by cause u)
    with_terminals (by_attach plan) u = came u plan
    with_terminals (by_order node order) u = same u
    with_terminals (by_tick node) u = same u
    with_terminals (by_octets from to octets) u = same u
    with_terminals (by_octets_on end octets) u = same u
    with_terminals (by_release gnb ue) u = same u
    with_terminals (by_offer ue bearer p) u = same u
    with_terminals (by_item end item rest) u = same u
    with_terminals (by_air key home item) u = same u
    with_terminals (by_ack key home item rest) u = same u
    with_terminals (by_control_message number l to) u = same u

    then_relates : (u : Units M C) (e : Outcome M C L P) (more : State M C L P → Outcome M C L P) → Relates u e
        → ((t : State M C L P) → Relates t.units (more t)) → Relates u (e next more)
    then_relates u (goes told t) more p q = by (more t) (q t)
      where
        by : (e : Outcome M C L P) → Relates t.units e → Relates u (told_before told e)
        by (goes further s) h = joined u t.units s.units p h
        by (stops further why) h = tt
    then_relates u (stops told why) more p q = tt

    pub made_relates : (event : Event) (s : State M C L P) (e : Outcome M C L P) → IsOutcome world event s e → Relates s.units e
    made_relates event s e (stays t) = same t.units
    made_relates event s e (ends t why) = tt
    made_relates event s e (then_made t d more p q) =
        then_relates t.units d more (made_relates event t d p) (λ x. made_relates event x (more x) (q x))
    made_relates event s e (sets_up t plan is free room teids) = placed t.units plan (or_parts (was_attached t plan.ue) _ free).1 room teids
    made_relates event s e (starts t d p) = made_relates event (record t { started = true }) d p
    made_relates event s e (acts t cause outputs units stands is fine few) =
        by_units t.units (units_by cause units) _
        (joined t.units units (units_by cause units) (answered (sn_of t) t.units units (node_of cause) (given_of cause) outputs is) (with_terminals cause units))
        (as_step_units (units_by cause units) (Some (node_of cause)) _ (act_units cause outputs units t))
    made_relates event s e (holds_item t end reason) = same t.units
    made_relates event s e (holds_pdu t key home reason) = same t.units
    made_relates event s e (offers t ue bearer p path is found) =
        by_units t.units t.units _ (same t.units)
        (as_step_units t.units (Some Core) _ (then_units t.units _ check_spans (keep_put_on_tunnel _ _ _) keep_checked))
    made_relates event s e (core_takes t number l outputs core found at is few) =
        by_units t.units t.units _ (same t.units)
        (as_step_units t.units (Some Core) _
        (then_units t.units (landed_as world number l (record t { core = core }) next put_out_all world Core None outputs) check_spans
        (then_units t.units (landed_as world number l (record t { core = core })) (put_out_all world Core None outputs) refl (keep_put_all Core None outputs))
        keep_checked))
    made_relates event s e (core_reads t from octets outputs core is) =
        by_units t.units t.units _ (same t.units)
        (as_step_units t.units (Some Core) _ (then_units t.units _ check_spans (keep_put_all Core None outputs _) keep_checked))
    made_relates event s e (lands t number l to found at) = same t.units
    made_relates event s e (loses_control_message t number) = same t.units
    made_relates event s e (loses_item t end item rest found) = same t.units
    made_relates event s e (remarks t lines plain) = same t.units

    goes_further : (s t : State M C L P) (events : List Event) (e : Outcome M C L P) → Relates s.units e
        → ((after : State M C L P) → reached world events after ≡ Some t → R after.units t.units)
        → reached_by world (reached world events) e ≡ Some t → R s.units t.units
    goes_further s t events (goes steps after) p more at = joined s.units after.units t.units p (more after at)
    goes_further s t events (stops steps why) p more at = absurd cc

    pub reached_relates : (events : List Event) (s t : State M C L P) → reached world events s ≡ Some t → R s.units t.units
    reached_relates [] s t is = let at : s ≡ t = cc in subst (λ (x : State M C L P). R s.units x.units) at (same s.units)
    reached_relates (event ∷ events) s t is =
        goes_further s t events (happens world event s) (made_relates event s (happens world event s) (made_of_steps world event s))
        (λ after at. reached_relates events after t at) is
