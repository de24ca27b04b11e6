-- A step whose outputs are no control messages leaves the control messages as they were.
use Rattle.std.proofs.Common.{◌≡◌, ℕ, Bool, true, false, List, [], ◌∷◌, ◌++◌, Option, Some, None, refl, ◌∙◌, subst}
use Rattle.std.specs.Prelude.{if◌then◌else◌}
use Rattle.std.specs.List.{flat_map}
use Rattle.gnb_types.specs.declared.names.NodeId.{NodeId}
use Rattle.gnb_types.specs.declared.names.NodeId.TheVariants.{CuCp, CuUp, Du, Core, Ue}
use Rattle.gnb_types.specs.declared.names.UeId.{UeId}
use Rattle.gnb_types.specs.declared.keys.EntityKey.{EntityKey}
use Rattle.gnb_types.specs.declared.keys.TunnelEnd.{TunnelEnd}
use Rattle.gnb_types.specs.declared.outputs.Tag.{Tag}
use Rattle.gnb_types.specs.declared.outputs.Tag.TheVariants.{Absent, Own, Same}
use Rattle.gnb_types.specs.Orders.{ue_cmp, tunnel_cmp}
use Rattle.tables.specs.Tables.{find}
use Rattle.unit_defs.specs.Ways.{Put, control, packet, radio, deliver, dropped, held, opened, closed, failed, no}
use Rattle.transport_defs.specs.declared.Item.{Item}
use Rattle.transport_defs.specs.Links.{Bag, is_epoch, emptied}
use Rattle.run_defs.specs.Lines.{RunLine, put_item, lost_items, tunnel_link, radio_link, shown}
use Rattle.run_defs.specs.Units.{Units}
use Rattle.run_defs.specs.States.{State, World, Stop, goes, stops, told_before, ◌next◌, goes_on, Ending, Within, as_step, entity, radio_of, with_radio}
use Rattle.run_defs.specs.Steps.{first_outstanding, entities_of, checked_by, check_spans, noted, count_beside, item_of, on_tunnel, put_on_tunnel, put_on_connected, put_on_radio, opens, closes, radio_lost, lose_each, lose_radios_of, lose_radios, radios_of, same_epoch, epoch_now, connect_in, reconnect, reconnect_node, put_out, put_out_all, carried_out}
use Rattle.law_downlink_scripts.proofs.delivers.Lines.{IsSilent}

module _ {M C L P : Type 0} (world : World M C L P) where
  abbrev pub HasBag : {X : Type 0} → Bag M → Ending X (State M C L P) → Type 0
  HasBag b (goes told t) = t.bag ≡ b
  HasBag b (stops told why) = Unit {0}

  abbrev pub KeepsBag : (State M C L P → Within M C L P) → Type 0
  KeepsBag f = (t : State M C L P) → HasBag t.bag (f t)

  pub then_bag : (b : Bag M) (e : Within M C L P) (f : State M C L P → Within M C L P) → HasBag b e → KeepsBag f → HasBag b (e next f)
  then_bag b (goes told t) f p q = by (f t) (q t)
    where
      by : (e : Within M C L P) → HasBag t.bag e → HasBag b (told_before told e)
      by (goes more s) h = h ∙ p
      by (stops more why) h = tt
  then_bag b (stops told why) f p q = tt

  pub keep_checked : KeepsBag check_spans
  unfolding check_spans
  keep_checked s = by (first_outstanding s (flat_map entities_of s.plans))
    where
      by : (o : Option Stop) → HasBag s.bag (checked_by s o)
      by None = refl
      by (Some why) = tt

  keep_on_tunnel : (end : TunnelEnd) (item : Item L) (s : State M C L P) (o : Option (List (Item L))) → HasBag s.bag (on_tunnel world s end item o)
  keep_on_tunnel end item s None = refl
  keep_on_tunnel end item s (Some items) = refl

  pub keep_put_on_tunnel : (end : TunnelEnd) (item : Item L) → KeepsBag (put_on_tunnel world end item)
  unfolding put_on_tunnel
  keep_put_on_tunnel end item s =
      then_bag s.bag (goes (put_item (tunnel_link end) (shown item.key item.count (world.show_item item.content)) ∷ []) s)
      (λ t. on_tunnel world t end item (find tunnel_cmp t.tunnels end)) refl (λ t. keep_on_tunnel end item t (find tunnel_cmp t.tunnels end))

  keep_connected : (key : EntityKey) (epoch : ℕ) (item : Item P) → KeepsBag (put_on_connected world key epoch item)
  keep_connected key epoch item s = by (is_epoch (find ue_cmp s.connected key.ue) epoch)
    where
      by : (t : Bool) → HasBag {X = RunLine M} s.bag (if t
          then goes_on (with_radio key (record (radio_of s key) { items = (radio_of s key).items ++ item ∷ [] }) s)
          else goes (lost_items (radio_link key epoch) 1 ∷ []) s)
      by true = refl
      by false = refl

  keep_put_on_radio : (epoch : ℕ) (item : Item P) → KeepsBag (put_on_radio world epoch item)
  unfolding put_on_radio
  keep_put_on_radio epoch item s =
      then_bag s.bag (goes (put_item (radio_link item.key epoch) (shown item.key item.count (world.show_pdu item.content)) ∷ []) s)
      (put_on_connected world item.key epoch item) refl (keep_connected item.key epoch item)

  noted_bag : (key : EntityKey) (tag : Tag) (s : State M C L P) → (noted key tag s).bag ≡ s.bag
  noted_bag key Absent s = refl
  noted_bag key (Own count) s = refl
  noted_bag key Same s = refl

  -- outputs, none of which is a control message
  pub keep_put_all : (node : NodeId) (taken : Option ℕ) (outputs : List (Put M L P)) → IsSilent outputs → KeepsBag (put_out_all world node taken outputs)
  unfolding put_out_all opens closes
  keep_put_all node taken [] silent s = refl
  keep_put_all node taken (control to ue message ∷ outputs) silent s = absurd silent
  keep_put_all node taken (packet to teid ue bearer dir tag load ∷ outputs) silent s =
      then_bag s.bag (put_out world node taken (packet to teid ue bearer dir tag load) s) (put_out_all world node taken outputs)
      (subst (λ (b : Bag M). HasBag b (put_out world node taken (packet to teid ue bearer dir tag load) s)) (noted_bag (entity ue bearer dir) tag s)
      (keep_put_on_tunnel (record { node = to; teid = teid }) (item_of world ue bearer dir (count_beside tag taken) load) (noted (entity ue bearer dir) tag s)))
      (keep_put_all node taken outputs silent)
  keep_put_all node taken (radio ue bearer dir epoch tag pdu ∷ outputs) silent s =
      then_bag s.bag (put_out world node taken (radio ue bearer dir epoch tag pdu) s) (put_out_all world node taken outputs)
      (subst (λ (b : Bag M). HasBag b (put_out world node taken (radio ue bearer dir epoch tag pdu) s)) (noted_bag (entity ue bearer dir) tag s)
      (keep_put_on_radio epoch (item_of world ue bearer dir (count_beside tag taken) pdu) (noted (entity ue bearer dir) tag s)))
      (keep_put_all node taken outputs silent)
  keep_put_all node taken (deliver ue bearer dir count p ∷ outputs) silent s =
      then_bag s.bag (put_out world node taken (deliver ue bearer dir count p) s) (put_out_all world node taken outputs) refl (keep_put_all node taken outputs silent)
  keep_put_all node taken (dropped reason ∷ outputs) silent s =
      then_bag s.bag (put_out world node taken (dropped reason) s) (put_out_all world node taken outputs) refl (keep_put_all node taken outputs silent)
  keep_put_all node taken (opened teid ∷ outputs) silent s =
      then_bag s.bag (put_out world node taken (opened teid) s) (put_out_all world node taken outputs) refl (keep_put_all node taken outputs silent)
  keep_put_all node taken (closed teid ∷ outputs) silent s =
      then_bag s.bag (put_out world node taken (closed teid) s) (put_out_all world node taken outputs) refl (keep_put_all node taken outputs silent)
  keep_put_all node taken (failed ue cause ∷ outputs) silent s =
      then_bag s.bag (put_out world node taken (failed ue cause) s) (put_out_all world node taken outputs) refl (keep_put_all node taken outputs silent)
  keep_put_all node taken (held reason ∷ outputs) silent s =
      then_bag s.bag (put_out world node taken (held reason) s) (put_out_all world node taken outputs) refl (keep_put_all node taken outputs silent)
  keep_put_all node taken (no reason ∷ outputs) silent s =
      then_bag s.bag (put_out world node taken (no reason) s) (put_out_all world node taken outputs) refl (keep_put_all node taken outputs silent)

  -- ---- the radios follow the terminal

  keep_lose_each : (epoch : ℕ) (keys : List EntityKey) → KeepsBag (lose_each world epoch keys)
  keep_lose_each epoch [] s = refl
  keep_lose_each epoch (key ∷ keys) s =
      then_bag s.bag (goes (radio_lost world epoch key (radio_of s key).items) (record s { radios = emptied s.radios key }))
      (lose_each world epoch keys) refl (keep_lose_each epoch keys)

  keep_lose_of : (ue : UeId) (o : Option ℕ) → KeepsBag (lose_radios_of world ue o)
  keep_lose_of ue None s = refl
  keep_lose_of ue (Some epoch) s = keep_lose_each epoch (radios_of world ue s.radios) s

  keep_lose : (ue : UeId) → KeepsBag (lose_radios world ue)
  unfolding lose_radios
  keep_lose ue s = keep_lose_of ue (find ue_cmp s.connected ue) s

  keep_reconnect : (ue : UeId) → KeepsBag (reconnect world ue)
  keep_reconnect ue s = by (same_epoch world (find ue_cmp s.connected ue) (epoch_now world s ue))
    where
      by : (t : Bool) → HasBag s.bag (if t then goes_on s
          else (lose_radios world ue s next (λ t. goes_on (connect_in world ue (epoch_now world s ue) t))))
      by true = refl
      by false = then_bag s.bag (lose_radios world ue s) (λ t. goes_on (connect_in world ue (epoch_now world s ue) t)) (keep_lose ue s) (λ t. refl)

  keep_reconnect_node : (node : NodeId) → KeepsBag (reconnect_node world node)
  keep_reconnect_node (Ue ue) s = keep_reconnect (record { 0 = ue }) s
  keep_reconnect_node (CuCp gnb) s = refl
  keep_reconnect_node (CuUp gnb number) s = refl
  keep_reconnect_node (Du gnb number) s = refl
  keep_reconnect_node Core s = refl

  -- ---- a step

  pub act_bag : (node : NodeId) (taken : Option ℕ) (first : State M C L P → Within M C L P) → KeepsBag first → (outputs : List (Put M L P))
      → IsSilent outputs → (units : Units M C) (s : State M C L P) → HasBag s.bag (carried_out world node taken first outputs units s)
  act_bag node taken first keeps outputs silent units s =
      then_bag s.bag (first (record s { units = units }) next reconnect_node world node next put_out_all world node taken outputs) check_spans
      (then_bag s.bag (first (record s { units = units }) next reconnect_node world node) (put_out_all world node taken outputs)
      (then_bag s.bag (first (record s { units = units })) (reconnect_node world node) (keeps (record s { units = units })) (keep_reconnect_node node))
      (keep_put_all node taken outputs silent))
      keep_checked

  pub as_step_bag : (b : Bag M) (actor : Option NodeId) (w : Within M C L P) → HasBag b w → HasBag b (as_step actor w)
  as_step_bag b actor (goes lines t) p = p
  as_step_bag b actor (stops lines why) p = tt
