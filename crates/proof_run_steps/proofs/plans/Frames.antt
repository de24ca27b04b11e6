-- What is done within a step to the plans that a run keeps: only a terminal that comes adds one.
use Rattle.std.proofs.Common.{◌≡◌, ℕ, Bool, true, false, List, [], ◌∷◌, ◌++◌, Option, Some, None, refl, ◌∙◌, subst}
use Rattle.std.specs.Prelude.{if◌then◌else◌}
use Rattle.std.specs.List.{flat_map}
use Rattle.gnb_types.specs.declared.names.NodeId.{NodeId}
use Rattle.gnb_types.specs.declared.names.NodeId.TheVariants.{CuCp, CuUp, Du, Core, Ue}
use Rattle.gnb_types.specs.declared.names.UeId.{UeId}
use Rattle.gnb_types.specs.declared.keys.EntityKey.{EntityKey}
use Rattle.gnb_types.specs.declared.keys.TunnelEnd.{TunnelEnd}
use Rattle.gnb_types.specs.declared.outputs.Tag.{Tag}
use Rattle.gnb_types.specs.declared.outputs.Tag.TheVariants.{Absent, Own, Same}
use Rattle.gnb_types.specs.Orders.{ue_cmp, tunnel_cmp}
use Rattle.tables.specs.Tables.{find, put}
use Rattle.unit_defs.specs.Ways.{Put, control, packet, radio, deliver, dropped, held, opened, closed, failed, no}
use Rattle.transport_defs.specs.declared.Item.{Item}
use Rattle.transport_defs.specs.Links.{is_epoch, emptied}
use Rattle.run_defs.specs.Lines.{RunLine, put_item, lost_items, tunnel_link, radio_link, shown}
use Rattle.run_defs.specs.Units.{Units}
use Rattle.run_defs.specs.States.{State, World, Stop, goes, stops, told_before, ◌next◌, goes_on, Ending, Within, as_step, entity, radio_of, with_radio}
use Rattle.run_defs.specs.Steps.{first_outstanding, entities_of, checked_by, check_spans, noted, count_beside, item_of, on_tunnel, put_on_tunnel, put_on_connected, put_on_radio, put_control, opens, closes, radio_lost, lose_each, lose_radios_of, lose_radios, radios_of, same_epoch, epoch_now, connect_in, reconnect, reconnect_node, put_out, put_out_all, carried_out}
use Rattle.run_defs.specs.Events.{leaves}
use Rattle.proof_run_steps.specs.steps.Causes.{Cause, by_order, by_tick, by_octets, by_octets_on, by_attach, by_release, by_offer, by_item, by_air, by_ack, by_control_message, node_of, count_of, first_of}
use Rattle.proof_run_steps.specs.plans.Plans.{Plans}

module _ {M C L P : Type 0} (world : World M C L P) where
  -- ---- within a step the plans are these

  abbrev pub HasPlans : {X : Type 0} → Plans → Ending X (State M C L P) → Type 0
  HasPlans u (goes told t) = t.plans ≡ u
  HasPlans u (stops told why) = Unit {0}

  abbrev pub KeepsPlans : (State M C L P → Within M C L P) → Type 0
  KeepsPlans f = (t : State M C L P) → HasPlans t.plans (f t)

  pub then_plans : (u : Plans) (e : Within M C L P) (f : State M C L P → Within M C L P) → HasPlans u e → KeepsPlans f → HasPlans u (e next f)
  then_plans u (goes told t) f p q = by (f t) (q t)
    where
      by : (e : Within M C L P) → HasPlans t.plans e → HasPlans u (told_before told e)
      by (goes more s) h = h ∙ p
      by (stops more why) h = tt
  then_plans u (stops told why) f p q = tt

  pub keep_checked : KeepsPlans check_spans
  unfolding check_spans
  keep_checked s = by (first_outstanding s (flat_map entities_of s.plans))
    where
      by : (o : Option Stop) → HasPlans s.plans (checked_by s o)
      by None = refl
      by (Some why) = tt

  keep_on_tunnel : (end : TunnelEnd) (item : Item L) (s : State M C L P) (o : Option (List (Item L))) → HasPlans s.plans (on_tunnel world s end item o)
  keep_on_tunnel end item s None = refl
  keep_on_tunnel end item s (Some items) = refl

  pub keep_put_on_tunnel : (end : TunnelEnd) (item : Item L) → KeepsPlans (put_on_tunnel world end item)
  unfolding put_on_tunnel
  keep_put_on_tunnel end item s =
      then_plans s.plans (goes (put_item (tunnel_link end) (shown item.key item.count (world.show_item item.content)) ∷ []) s)
      (λ t. on_tunnel world t end item (find tunnel_cmp t.tunnels end)) refl
      (λ t. keep_on_tunnel end item t (find tunnel_cmp t.tunnels end))

  keep_connected : (key : EntityKey) (epoch : ℕ) (item : Item P) → KeepsPlans (put_on_connected world key epoch item)
  keep_connected key epoch item s = by (is_epoch (find ue_cmp s.connected key.ue) epoch)
    where
      by : (t : Bool) → HasPlans {X = RunLine M} s.plans (if t
          then goes_on (with_radio key (record (radio_of s key) { items = (radio_of s key).items ++ item ∷ [] }) s)
          else goes (lost_items (radio_link key epoch) 1 ∷ []) s)
      by true = refl
      by false = refl

  keep_put_on_radio : (epoch : ℕ) (item : Item P) → KeepsPlans (put_on_radio world epoch item)
  unfolding put_on_radio
  keep_put_on_radio epoch item s =
      then_plans s.plans (goes (put_item (radio_link item.key epoch) (shown item.key item.count (world.show_pdu item.content)) ∷ []) s)
      (put_on_connected world item.key epoch item) refl (keep_connected item.key epoch item)

  noted_plans : (key : EntityKey) (tag : Tag) (s : State M C L P) → (noted key tag s).plans ≡ s.plans
  noted_plans key Absent s = refl
  noted_plans key (Own count) s = refl
  noted_plans key Same s = refl

  keep_put : (node : NodeId) (taken : Option ℕ) (output : Put M L P) → KeepsPlans (put_out world node taken output)
  unfolding put_control opens closes
  keep_put node taken (control to ue message) s = refl
  keep_put node taken (packet to teid ue bearer dir tag load) s =
      subst (λ (u : Plans). HasPlans u (put_out world node taken (packet to teid ue bearer dir tag load) s)) (noted_plans (entity ue bearer dir) tag s)
      (keep_put_on_tunnel (record { node = to; teid = teid }) (item_of world ue bearer dir (count_beside tag taken) load) (noted (entity ue bearer dir) tag s))
  keep_put node taken (radio ue bearer dir epoch tag pdu) s =
      subst (λ (u : Plans). HasPlans u (put_out world node taken (radio ue bearer dir epoch tag pdu) s)) (noted_plans (entity ue bearer dir) tag s)
      (keep_put_on_radio epoch (item_of world ue bearer dir (count_beside tag taken) pdu) (noted (entity ue bearer dir) tag s))
  keep_put node taken (deliver ue bearer dir count p) s = refl
  keep_put node taken (dropped reason) s = refl
  keep_put node taken (opened teid) s = refl
  keep_put node taken (closed teid) s = refl
  keep_put node taken (failed ue cause) s = refl
  keep_put node taken (held reason) s = refl
  keep_put node taken (no reason) s = refl

  pub keep_put_all : (node : NodeId) (taken : Option ℕ) (outputs : List (Put M L P)) → KeepsPlans (put_out_all world node taken outputs)
  unfolding put_out_all
  keep_put_all node taken [] s = refl
  keep_put_all node taken (output ∷ outputs) s =
      then_plans s.plans (put_out world node taken output s) (put_out_all world node taken outputs) (keep_put node taken output s)
      (keep_put_all node taken outputs)

  keep_lose_each : (epoch : ℕ) (keys : List EntityKey) → KeepsPlans (lose_each world epoch keys)
  keep_lose_each epoch [] s = refl
  keep_lose_each epoch (key ∷ keys) s =
      then_plans s.plans (goes (radio_lost world epoch key (radio_of s key).items) (record s { radios = emptied s.radios key }))
      (lose_each world epoch keys) refl (keep_lose_each epoch keys)

  keep_lose_of : (ue : UeId) (o : Option ℕ) → KeepsPlans (lose_radios_of world ue o)
  keep_lose_of ue None s = refl
  keep_lose_of ue (Some epoch) s = keep_lose_each epoch (radios_of world ue s.radios) s

  keep_lose : (ue : UeId) → KeepsPlans (lose_radios world ue)
  unfolding lose_radios
  keep_lose ue s = keep_lose_of ue (find ue_cmp s.connected ue) s

  keep_reconnect : (ue : UeId) → KeepsPlans (reconnect world ue)
  keep_reconnect ue s = by (same_epoch world (find ue_cmp s.connected ue) (epoch_now world s ue))
    where
      by : (t : Bool) → HasPlans s.plans (if t then goes_on s
          else (lose_radios world ue s next (λ t. goes_on (connect_in world ue (epoch_now world s ue) t))))
      by true = refl
      by false = then_plans s.plans (lose_radios world ue s) (λ t. goes_on (connect_in world ue (epoch_now world s ue) t)) (keep_lose ue s) (λ t. refl)

  keep_reconnect_node : (node : NodeId) → KeepsPlans (reconnect_node world node)
  keep_reconnect_node (Ue ue) s = keep_reconnect (record { 0 = ue }) s
  keep_reconnect_node (CuCp gnb) s = refl
  keep_reconnect_node (CuUp gnb number) s = refl
  keep_reconnect_node (Du gnb number) s = refl
  keep_reconnect_node Core s = refl

  keep_leaves : (ue : UeId) → KeepsPlans (leaves world ue)
  keep_leaves ue s =
      then_plans s.plans (lose_radios world ue s) (λ t. goes_on (record (connect_in world ue None t) { gone = t.gone ++ ue ∷ [] })) (keep_lose ue s)
      (λ t. refl)

  -- the plans of a step are those before; a terminal may come beside
  abbrev pub plans_by : Cause M L P → Plans → Plans
  plans_by (by_attach plan) plans = put ue_cmp plans plan.ue plan
  plans_by cause plans = plans

  first_plans : (cause : Cause M L P) (s : State M C L P) → HasPlans (plans_by cause s.plans) (first_of world cause s)
  first_plans (by_order node order) s = refl
  first_plans (by_tick node) s = refl
  first_plans (by_octets from to octets) s = refl
  first_plans (by_octets_on end octets) s = refl
  first_plans (by_attach plan) s = refl
  first_plans (by_release gnb ue) s = keep_leaves ue s
  first_plans (by_offer ue bearer p) s = refl
  first_plans (by_item end item rest) s = refl
  first_plans (by_air key home item) s = refl
  first_plans (by_ack key home item rest) s = refl
  first_plans (by_control_message number l to) s = refl

  pub act_plans : (cause : Cause M L P) (outputs : List (Put M L P)) (units : Units M C) (s : State M C L P)
      → HasPlans (plans_by cause s.plans) (carried_out world (node_of cause) (count_of cause) (first_of world cause) outputs units s)
  act_plans cause outputs units s =
      let u : Plans = plans_by cause s.plans in
      let first : Within M C L P = first_of world cause (record s { units = units }) in
      then_plans u (first next reconnect_node world (node_of cause) next put_out_all world (node_of cause) (count_of cause) outputs) check_spans
      (then_plans u (first next reconnect_node world (node_of cause)) (put_out_all world (node_of cause) (count_of cause) outputs)
      (then_plans u first (reconnect_node world (node_of cause)) (first_plans cause (record s { units = units })) (keep_reconnect_node (node_of cause)))
      (keep_put_all (node_of cause) (count_of cause) outputs))
      keep_checked

  pub as_step_plans : (u : Plans) (actor : Option NodeId) (w : Within M C L P) → HasPlans u w → HasPlans u (as_step actor w)
  as_step_plans u actor (goes lines t) p = p
  as_step_plans u actor (stops lines why) p = tt
