-- Within a step the control is that of its answer, and the control messages that it puts come to those before.
use Rattle.std.proofs.Common.{◌≡◌, ℕ, Bool, true, false, List, [], ◌∷◌, ◌++◌, Option, Some, None, refl, sym, ap, ◌∙◌, subst, append_assoc}
use Rattle.std.proofs.lemmas.List.{append-nil, map-append}
use Rattle.std.specs.Prelude.{if◌then◌else◌, length, ◌+◌}
use Rattle.std.specs.List.{flat_map}
use Rattle.gnb_types.specs.declared.names.NodeId.{NodeId}
use Rattle.gnb_types.specs.declared.names.NodeId.TheVariants.{CuCp, CuUp, Du, Core, Ue}
use Rattle.gnb_types.specs.declared.names.UeId.{UeId}
use Rattle.gnb_types.specs.declared.keys.EntityKey.{EntityKey}
use Rattle.gnb_types.specs.declared.keys.TunnelEnd.{TunnelEnd}
use Rattle.gnb_types.specs.declared.outputs.Tag.{Tag}
use Rattle.gnb_types.specs.declared.outputs.Tag.TheVariants.{Absent, Own, Same}
use Rattle.gnb_types.specs.Orders.{ue_cmp, tunnel_cmp}
use Rattle.tables.specs.Tables.{find}
use Rattle.unit_defs.specs.Ways.{Put, control, packet, radio, deliver, dropped, held, opened, closed, failed, no}
use Rattle.unit_defs.specs.Ue.{new_ue}
use Rattle.transport_defs.specs.declared.Item.{Item}
use Rattle.transport_defs.specs.declared.ControlMessage.{ControlMessage}
use Rattle.transport_defs.specs.Links.{is_epoch, emptied, put_control_message, landed}
use Rattle.run_defs.specs.Lines.{RunLine, put_item, lost_items, tunnel_link, radio_link, shown}
use Rattle.run_defs.specs.Units.{Units, with_ue}
use Rattle.run_defs.specs.States.{State, World, Stop, goes, stops, told_before, ◌next◌, goes_on, Ending, Within, as_step, entity, radio_of, with_radio}
use Rattle.run_defs.specs.Steps.{first_outstanding, entities_of, checked_by, check_spans, noted, count_beside, item_of, on_tunnel, put_on_tunnel, put_on_connected, put_on_radio, put_control, opens, closes, radio_lost, lose_each, lose_radios_of, lose_radios, radios_of, same_epoch, epoch_now, connect_in, reconnect, reconnect_node, put_out, put_out_all, carried_out}
use Rattle.run_defs.specs.Events.{leaves}
use Rattle.proof_run_steps.specs.steps.Causes.{Cause, by_order, by_tick, by_octets, by_octets_on, by_attach, by_release, by_offer, by_item, by_air, by_ack, by_control_message, node_of, count_of, first_of}
use Rattle.proof_run_steps.specs.control.Control.{Control, control_of, control_message_in, control_messages_in, with_control_messages}

module _ {M C L P : Type 0} (world : World M C L P) where
  -- ---- within a step the control is this

  abbrev pub HasControl : {X : Type 0} → Control M C → Ending X (State M C L P) → Type 0
  HasControl k (goes told t) = control_of t ≡ k
  HasControl k (stops told why) = Unit {0}

  abbrev pub KeepsControl : (State M C L P → Within M C L P) → Type 0
  KeepsControl f = (t : State M C L P) → HasControl (control_of t) (f t)

  pub then_has : (k m : Control M C) (e : Within M C L P) (f : State M C L P → Within M C L P) → HasControl k e
      → ((t : State M C L P) → control_of t ≡ k → HasControl m (f t)) → HasControl m (e next f)
  then_has k m (goes told t) f p q = by (f t) (q t p)
    where
      by : (e : Within M C L P) → HasControl m e → HasControl m (told_before told e)
      by (goes more s) h = h
      by (stops more why) h = tt
  then_has k m (stops told why) f p q = tt

  pub then_control : (k : Control M C) (e : Within M C L P) (f : State M C L P → Within M C L P) → HasControl k e → KeepsControl f → HasControl k (e next f)
  then_control k e f p q = then_has k k e f p (λ t same. subst (λ (x : Control M C). HasControl x (f t)) same (q t))

  pub keep_checked : KeepsControl check_spans
  unfolding check_spans
  keep_checked s = by (first_outstanding s (flat_map entities_of s.plans))
    where
      by : (o : Option Stop) → HasControl (control_of s) (checked_by s o)
      by None = refl
      by (Some why) = tt

  keep_on_tunnel : (end : TunnelEnd) (item : Item L) (s : State M C L P) (o : Option (List (Item L))) → HasControl (control_of s) (on_tunnel world s end item o)
  keep_on_tunnel end item s None = refl
  keep_on_tunnel end item s (Some items) = refl

  pub keep_put_on_tunnel : (end : TunnelEnd) (item : Item L) → KeepsControl (put_on_tunnel world end item)
  unfolding put_on_tunnel
  keep_put_on_tunnel end item s =
      then_control (control_of s) (goes (put_item (tunnel_link end) (shown item.key item.count (world.show_item item.content)) ∷ []) s)
      (λ t. on_tunnel world t end item (find tunnel_cmp t.tunnels end)) refl
      (λ t. keep_on_tunnel end item t (find tunnel_cmp t.tunnels end))

  keep_connected : (key : EntityKey) (epoch : ℕ) (item : Item P) → KeepsControl (put_on_connected world key epoch item)
  keep_connected key epoch item s = by (is_epoch (find ue_cmp s.connected key.ue) epoch)
    where
      by : (t : Bool) → HasControl {X = RunLine M} (control_of s) (if t
          then goes_on (with_radio key (record (radio_of s key) { items = (radio_of s key).items ++ item ∷ [] }) s)
          else goes (lost_items (radio_link key epoch) 1 ∷ []) s)
      by true = refl
      by false = refl

  keep_put_on_radio : (epoch : ℕ) (item : Item P) → KeepsControl (put_on_radio world epoch item)
  unfolding put_on_radio
  keep_put_on_radio epoch item s =
      then_control (control_of s) (goes (put_item (radio_link item.key epoch) (shown item.key item.count (world.show_pdu item.content)) ∷ []) s)
      (put_on_connected world item.key epoch item) refl (keep_connected item.key epoch item)

  noted_control : (key : EntityKey) (tag : Tag) (s : State M C L P) → control_of (noted key tag s) ≡ control_of s
  noted_control key Absent s = refl
  noted_control key (Own count) s = refl
  noted_control key Same s = refl

  -- an output adds the control message that it puts
  abbrev pub Adds : List (ControlMessage M) → (State M C L P → Within M C L P) → Type 0
  Adds more f = (t : State M C L P) → HasControl (with_control_messages (control_of t) more) (f t)

  nothing_added : (k : Control M C) → k ≡ with_control_messages k []
  nothing_added k = λ i. record { units = k.units; core = k.core; control_messages = sym (append-nil k.control_messages) i }

  adds_none : (f : State M C L P → Within M C L P) → KeepsControl f → Adds [] f
  adds_none f keeps t = subst (λ (k : Control M C). HasControl k (f t)) (nothing_added (control_of t)) (keeps t)

  add_put : (node : NodeId) (taken : Option ℕ) (output : Put M L P) → Adds (control_message_in node output) (put_out world node taken output)
  unfolding put_control opens closes put_control_message
  add_put node taken (control to ue message) s = λ i. record {
    units = s.units;
    core = s.core;
    control_messages = map-append (λ (e : ℕ × ControlMessage M). e.1) s.bag.control_messages
        ((length s.bag.control_messages + 1, record { from = node; to = to; ue = ue; message = message }) ∷ []) i;
  }
  add_put node taken (packet to teid ue bearer dir tag load) s =
      adds_none (λ t. put_on_tunnel world (record { node = to; teid = teid }) (item_of world ue bearer dir (count_beside tag taken) load) (noted (entity ue bearer dir) tag t))
      (λ t. subst (λ (k : Control M C). HasControl k (put_on_tunnel world (record { node = to; teid = teid })
      (item_of world ue bearer dir (count_beside tag taken) load) (noted (entity ue bearer dir) tag t))) (noted_control (entity ue bearer dir) tag t)
      (keep_put_on_tunnel (record { node = to; teid = teid }) (item_of world ue bearer dir (count_beside tag taken) load) (noted (entity ue bearer dir) tag t))) s
  add_put node taken (radio ue bearer dir epoch tag pdu) s =
      adds_none (λ t. put_on_radio world epoch (item_of world ue bearer dir (count_beside tag taken) pdu) (noted (entity ue bearer dir) tag t))
      (λ t. subst (λ (k : Control M C). HasControl k (put_on_radio world epoch (item_of world ue bearer dir (count_beside tag taken) pdu)
      (noted (entity ue bearer dir) tag t))) (noted_control (entity ue bearer dir) tag t)
      (keep_put_on_radio epoch (item_of world ue bearer dir (count_beside tag taken) pdu) (noted (entity ue bearer dir) tag t))) s
  add_put node taken (deliver ue bearer dir count p) s = nothing_added (control_of s)
  add_put node taken (dropped reason) s = nothing_added (control_of s)
  add_put node taken (opened teid) s = nothing_added (control_of s)
  add_put node taken (closed teid) s = nothing_added (control_of s)
  add_put node taken (failed ue cause) s = nothing_added (control_of s)
  add_put node taken (held reason) s = nothing_added (control_of s)
  add_put node taken (no reason) s = nothing_added (control_of s)

  both_added : (k : Control M C) (a b : List (ControlMessage M)) → with_control_messages (with_control_messages k a) b ≡ with_control_messages k (a ++ b)
  both_added k a b = λ i. record { units = k.units; core = k.core; control_messages = append_assoc k.control_messages a b i }

  pub add_put_all : (node : NodeId) (taken : Option ℕ) (outputs : List (Put M L P)) → Adds (control_messages_in node outputs) (put_out_all world node taken outputs)
  unfolding put_out_all
  add_put_all node taken [] s = nothing_added (control_of s)
  add_put_all node taken (output ∷ outputs) s =
      then_has (with_control_messages (control_of s) (control_message_in node output)) (with_control_messages (control_of s) (control_message_in node output ++ control_messages_in node outputs))
      (put_out world node taken output s) (put_out_all world node taken outputs) (add_put node taken output s)
      (λ t same. subst (λ (k : Control M C). HasControl k (put_out_all world node taken outputs t))
      (ap (λ (k : Control M C). with_control_messages k (control_messages_in node outputs)) same ∙ both_added (control_of s) (control_message_in node output) (control_messages_in node outputs))
      (add_put_all node taken outputs t))

  keep_lose_each : (epoch : ℕ) (keys : List EntityKey) → KeepsControl (lose_each world epoch keys)
  keep_lose_each epoch [] s = refl
  keep_lose_each epoch (key ∷ keys) s =
      then_control (control_of s) (goes (radio_lost world epoch key (radio_of s key).items) (record s { radios = emptied s.radios key }))
      (lose_each world epoch keys) refl (keep_lose_each epoch keys)

  keep_lose_of : (ue : UeId) (o : Option ℕ) → KeepsControl (lose_radios_of world ue o)
  keep_lose_of ue None s = refl
  keep_lose_of ue (Some epoch) s = keep_lose_each epoch (radios_of world ue s.radios) s

  keep_lose : (ue : UeId) → KeepsControl (lose_radios world ue)
  unfolding lose_radios
  keep_lose ue s = keep_lose_of ue (find ue_cmp s.connected ue) s

  keep_reconnect : (ue : UeId) → KeepsControl (reconnect world ue)
  keep_reconnect ue s = by (same_epoch world (find ue_cmp s.connected ue) (epoch_now world s ue))
    where
      by : (t : Bool) → HasControl (control_of s) (if t then goes_on s
          else (lose_radios world ue s next (λ t. goes_on (connect_in world ue (epoch_now world s ue) t))))
      by true = refl
      by false = then_control (control_of s) (lose_radios world ue s) (λ t. goes_on (connect_in world ue (epoch_now world s ue) t)) (keep_lose ue s) (λ t. refl)

  keep_reconnect_node : (node : NodeId) → KeepsControl (reconnect_node world node)
  keep_reconnect_node (Ue ue) s = keep_reconnect (record { 0 = ue }) s
  keep_reconnect_node (CuCp gnb) s = refl
  keep_reconnect_node (CuUp gnb number) s = refl
  keep_reconnect_node (Du gnb number) s = refl
  keep_reconnect_node Core s = refl

  keep_leaves : (ue : UeId) → KeepsControl (leaves world ue)
  keep_leaves ue s =
      then_control (control_of s) (lose_radios world ue s) (λ t. goes_on (record (connect_in world ue None t) { gone = t.gone ++ ue ∷ [] })) (keep_lose ue s)
      (λ t. refl)

  -- what a step leaves before its outputs are put
  abbrev pub first_control : Cause M L P → Control M C → Control M C
  first_control (by_attach plan) k = record k { units = with_ue k.units plan.ue (new_ue plan) }
  first_control cause k = k

  first_has : (cause : Cause M L P) (s : State M C L P) → HasControl (first_control cause (control_of s)) (first_of world cause s)
  unfolding landed
  first_has (by_order node order) s = refl
  first_has (by_tick node) s = refl
  first_has (by_octets from to octets) s = refl
  first_has (by_octets_on end octets) s = refl
  first_has (by_attach plan) s = refl
  first_has (by_release gnb ue) s = keep_leaves ue s
  first_has (by_offer ue bearer p) s = refl
  first_has (by_item end item rest) s = refl
  first_has (by_air key home item) s = refl
  first_has (by_ack key home item rest) s = refl
  first_has (by_control_message number l to) s = refl

  pub act_has : (cause : Cause M L P) (outputs : List (Put M L P)) (units : Units M C) (s : State M C L P)
      → HasControl (with_control_messages (first_control cause (record (control_of s) { units = units })) (control_messages_in (node_of cause) outputs))
      (carried_out world (node_of cause) (count_of cause) (first_of world cause) outputs units s)
  act_has cause outputs units s =
      let k : Control M C = first_control cause (record (control_of s) { units = units }) in
      let m : Control M C = with_control_messages k (control_messages_in (node_of cause) outputs) in
      let first : Within M C L P = first_of world cause (record s { units = units }) in
      then_control m (first next reconnect_node world (node_of cause) next put_out_all world (node_of cause) (count_of cause) outputs) check_spans
      (then_has k m (first next reconnect_node world (node_of cause)) (put_out_all world (node_of cause) (count_of cause) outputs)
      (then_control k first (reconnect_node world (node_of cause)) (first_has cause (record s { units = units })) (keep_reconnect_node (node_of cause)))
      (λ t same. subst (λ (x : Control M C). HasControl (with_control_messages x (control_messages_in (node_of cause) outputs)) (put_out_all world (node_of cause) (count_of cause) outputs t))
      same (add_put_all (node_of cause) (count_of cause) outputs t)))
      keep_checked

  pub step_has : (k : Control M C) (actor : Option NodeId) (w : Within M C L P) → HasControl k w → HasControl k (as_step actor w)
  step_has k actor (goes lines t) p = p
  step_has k actor (stops lines why) p = tt
