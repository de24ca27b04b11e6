-- What is done within a step rests on a world's links and on how it shows items, and not on how its units answer.
use Rattle.std.proofs.Common.{◌≡◌, ℕ, ◌+◌, List, [], ◌∷◌, ◌++◌, Option, Some, None, refl, ◌∙◌, ap}
use Rattle.std.specs.Prelude.{if◌then◌else◌, nat_lt, length}
use Rattle.gnb_types.specs.declared.names.NodeId.{NodeId}
use Rattle.gnb_types.specs.declared.names.NodeId.TheVariants.{CuCp, CuUp, Du, Core, Ue}
use Rattle.gnb_types.specs.declared.names.UeId.{UeId}
use Rattle.gnb_types.specs.declared.keys.TunnelEnd.{TunnelEnd}
use Rattle.gnb_types.specs.declared.keys.EntityKey.{EntityKey}
use Rattle.gnb_types.specs.Orders.{ue_cmp, tunnel_cmp}
use Rattle.tables.specs.Tables.{find, at, without}
use Rattle.unit_defs.specs.declared.UeState.{UeState}
use Rattle.unit_defs.specs.declared.UeState.TheVariants as ue_states
use Rattle.unit_defs.specs.Ue.{UeNode}
use Rattle.unit_defs.specs.Ways.{Put, control, packet, radio, deliver, dropped, held, opened, closed, failed, no}
use Rattle.transport_defs.specs.declared.Item.{Item}
use Rattle.transport_defs.specs.Links.{most_control_messages, emptied}
use Rattle.run_defs.specs.Lines.{put_item, tunnel_link, shown}
use Rattle.run_defs.specs.Units.{Units, ue_of}
use Rattle.run_defs.specs.States.{State, Given, Stepped, World, Lengths, goes, told_before, ◌next◌, goes_on, Within, entity, radio_of, was_attached}
use Rattle.run_defs.specs.Steps.{check_spans, noted, count_beside, item_of, on_tunnel, put_on_tunnel, put_on_radio, put_control, lost_if, opens, closes, radio_lost, lose_each, lose_radios_of, lose_radios, radios_of, is_on_air, epoch_on_air, epoch_now, same_epoch, connect_in, reconnect, reconnect_node, put_out, put_out_all, count_control_messages, too_many_control_messages, carried_out}
use Rattle.run_defs.specs.Events.{leaves}
use Rattle.proof_run_steps.specs.steps.Causes.{Cause, by_order, by_tick, by_octets, by_octets_on, by_attach, by_release, by_offer, by_item, by_air, by_ack, by_control_message, node_of, count_of, first_of}

-- the world whose units answer otherwise
abbrev pub answered_by : {M C L P : Type 0} → World M C L P → (Lengths → Units M C → NodeId → Given M L P → Stepped M C L P) → World M C L P
answered_by world answer = record world { answer = answer }

module _ {M C L P : Type 0} (world : World M C L P) (answer : Lengths → Units M C → NodeId → Given M L P → Stepped M C L P) where
  abbrev other : World M C L P
  other = answered_by world answer

  -- ---- items

  same_on_tunnel : (s : State M C L P) (end : TunnelEnd) (item : Item L) (o : Option (List (Item L)))
      → on_tunnel world s end item o ≡ on_tunnel other s end item o
  same_on_tunnel s end item None = refl
  same_on_tunnel s end item (Some items) = refl

  pub same_put_on_tunnel : (end : TunnelEnd) (item : Item L) (s : State M C L P) → put_on_tunnel world end item s ≡ put_on_tunnel other end item s
  unfolding put_on_tunnel
  same_put_on_tunnel end item s =
      ap (λ (e : Within M C L P). told_before (put_item (tunnel_link end) (shown item.key item.count (world.show_item item.content)) ∷ []) e)
      (same_on_tunnel s end item (find tunnel_cmp s.tunnels end))

  same_lost_if : {X : Type 0} (end : TunnelEnd) (xs : List X) → lost_if world end xs ≡ lost_if other end xs
  same_lost_if end [] = refl
  same_lost_if end (x ∷ xs) = refl

  -- ---- radios

  same_radio_lost : (epoch : ℕ) (key : EntityKey) (items : List (Item P)) → radio_lost world epoch key items ≡ radio_lost other epoch key items
  same_radio_lost epoch key [] = refl
  same_radio_lost epoch key (item ∷ items) = refl

  same_lose_each : (epoch : ℕ) (keys : List EntityKey) (s : State M C L P) → lose_each world epoch keys s ≡ lose_each other epoch keys s
  same_lose_each epoch [] s = refl
  same_lose_each epoch (key ∷ keys) s =
      λ i. told_before (same_radio_lost epoch key (radio_of s key).items i)
      (same_lose_each epoch keys (record s { radios = emptied s.radios key }) i)

  same_lose_of : (ue : UeId) (o : Option ℕ) (s : State M C L P) → lose_radios_of world ue o s ≡ lose_radios_of other ue o s
  same_lose_of ue None s = refl
  same_lose_of ue (Some epoch) s = same_lose_each epoch (radios_of world ue s.radios) s

  pub same_lose : (ue : UeId) (s : State M C L P) → lose_radios world ue s ≡ lose_radios other ue s
  unfolding lose_radios
  same_lose ue s = same_lose_of ue (find ue_cmp s.connected ue) s

  same_on_air : (state : UeState) → is_on_air world state ≡ is_on_air other state
  same_on_air ue_states.Idle = refl
  same_on_air ue_states.Accessing = refl
  same_on_air ue_states.Connected = refl
  same_on_air ue_states.Lost = refl
  same_on_air ue_states.Returning = refl

  same_epoch_on_air : (o : Option UeNode) → epoch_on_air world o ≡ epoch_on_air other o
  same_epoch_on_air None = refl
  same_epoch_on_air (Some u) = λ i. if same_on_air u.state i then Some u.epoch else None

  same_epoch_now : (s : State M C L P) (ue : UeId) → epoch_now world s ue ≡ epoch_now other s ue
  same_epoch_now s ue = λ i. if was_attached s ue then same_epoch_on_air (ue_of s.units ue) i else None

  same_same_epoch : (a b : Option ℕ) → same_epoch world a b ≡ same_epoch other a b
  same_same_epoch None None = refl
  same_same_epoch None (Some b) = refl
  same_same_epoch (Some a) None = refl
  same_same_epoch (Some a) (Some b) = refl

  same_connected : (ue : UeId) (now : Option ℕ) (s : State M C L P)
      → (lose_radios world ue s next (λ t. goes_on (connect_in world ue now t))) ≡ (lose_radios other ue s next (λ t. goes_on (connect_in other ue now t)))
  same_connected ue now s = λ i. same_lose ue s i next (λ t. goes_on (connect_in world ue now t))

  same_reconnect : (ue : UeId) (s : State M C L P) → reconnect world ue s ≡ reconnect other ue s
  same_reconnect ue s =
      (λ i. if same_same_epoch (find ue_cmp s.connected ue) (epoch_now world s ue) i then goes_on s
      else same_connected ue (epoch_now world s ue) s i)
      ∙ ap (λ (now : Option ℕ). if same_epoch other (find ue_cmp s.connected ue) now then goes_on s
      else (lose_radios other ue s next (λ t. goes_on (connect_in other ue now t)))) (same_epoch_now s ue)

  same_reconnect_node : (node : NodeId) (s : State M C L P) → reconnect_node world node s ≡ reconnect_node other node s
  same_reconnect_node (Ue ue) s = same_reconnect (record { 0 = ue }) s
  same_reconnect_node (CuCp gnb) s = refl
  same_reconnect_node (CuUp gnb number) s = refl
  same_reconnect_node (Du gnb number) s = refl
  same_reconnect_node Core s = refl

  same_leaves : (ue : UeId) (s : State M C L P) → leaves world ue s ≡ leaves other ue s
  same_leaves ue s = λ i. same_lose ue s i next (λ t. goes_on (record (connect_in world ue None t) { gone = t.gone ++ ue ∷ [] }))

  -- ---- outputs

  same_put_out : (node : NodeId) (taken : Option ℕ) (output : Put M L P) (s : State M C L P)
      → put_out world node taken output s ≡ put_out other node taken output s
  unfolding put_control opens closes put_on_radio
  same_put_out node taken (control to ue message) s = refl
  same_put_out node taken (packet to teid ue bearer dir tag load) s =
      same_put_on_tunnel (record { node = to; teid = teid }) (item_of world ue bearer dir (count_beside tag taken) load) (noted (entity ue bearer dir) tag s)
  same_put_out node taken (radio ue bearer dir epoch tag pdu) s = refl
  same_put_out node taken (deliver ue bearer dir count p) s = refl
  same_put_out node taken (dropped reason) s = refl
  same_put_out node taken (opened teid) s = refl
  same_put_out node taken (closed teid) s =
      λ i. goes (same_lost_if (record { node = node; teid = teid }) (at tunnel_cmp [] s.tunnels (record { node = node; teid = teid })) i)
      (record s { tunnels = without tunnel_cmp s.tunnels (record { node = node; teid = teid }) })
  same_put_out node taken (failed ue cause) s = refl
  same_put_out node taken (held reason) s = refl
  same_put_out node taken (no reason) s = refl

  pub same_put_all : (node : NodeId) (taken : Option ℕ) (outputs : List (Put M L P)) (s : State M C L P)
      → put_out_all world node taken outputs s ≡ put_out_all other node taken outputs s
  unfolding put_out_all
  same_put_all node taken [] s = refl
  same_put_all node taken (output ∷ outputs) s =
      λ i. same_put_out node taken output s i next (λ t. same_put_all node taken outputs t i)

  same_count : (outputs : List (Put M L P)) → count_control_messages world outputs ≡ count_control_messages other outputs
  same_count [] = refl
  same_count (control to ue message ∷ outputs) = λ i. same_count outputs i + 1
  same_count (packet to teid ue bearer dir tag load ∷ outputs) = same_count outputs
  same_count (radio ue bearer dir epoch tag pdu ∷ outputs) = same_count outputs
  same_count (deliver ue bearer dir count p ∷ outputs) = same_count outputs
  same_count (dropped reason ∷ outputs) = same_count outputs
  same_count (opened teid ∷ outputs) = same_count outputs
  same_count (closed teid ∷ outputs) = same_count outputs
  same_count (failed ue cause ∷ outputs) = same_count outputs
  same_count (held reason ∷ outputs) = same_count outputs
  same_count (no reason ∷ outputs) = same_count outputs

  pub same_many : (outputs : List (Put M L P)) (s : State M C L P) → too_many_control_messages world outputs s ≡ too_many_control_messages other outputs s
  same_many outputs s = λ i. nat_lt most_control_messages (length s.bag.control_messages + same_count outputs i)

  -- ---- a step

  pub same_first : (cause : Cause M L P) (s : State M C L P) → first_of world cause s ≡ first_of other cause s
  same_first (by_order node order) s = refl
  same_first (by_tick node) s = refl
  same_first (by_octets from to octets) s = refl
  same_first (by_octets_on end octets) s = refl
  same_first (by_attach plan) s = refl
  same_first (by_release gnb ue) s = same_leaves ue s
  same_first (by_offer ue bearer p) s = refl
  same_first (by_item end item rest) s = refl
  same_first (by_air key home item) s = refl
  same_first (by_ack key home item rest) s = refl
  same_first (by_control_message number l to) s = refl

  pub same_carried : (cause : Cause M L P) (outputs : List (Put M L P)) (units : Units M C) (s : State M C L P)
      → carried_out world (node_of cause) (count_of cause) (first_of world cause) outputs units s
      ≡ carried_out other (node_of cause) (count_of cause) (first_of other cause) outputs units s
  same_carried cause outputs units s =
      λ i. same_first cause (record s { units = units }) i next (λ t. same_reconnect_node (node_of cause) t i)
      next (λ t. same_put_all (node_of cause) (count_of cause) outputs t i) next check_spans
