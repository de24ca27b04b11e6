-- What is asked of the outputs of a step, so that something holds of all its lines: of what is put on a link, and of what is delivered.
use Rattle.std.proofs.Common.{ℕ, Bool, true, false, List, [], ◌∷◌, ◌++◌, Option, Some, None, inl, inr}
use Rattle.std.specs.Prelude.{if◌then◌else◌}
use Rattle.std.specs.List.{AllByRecursion, flat_map}
use Rattle.gnb_types.specs.declared.names.NodeId.{NodeId}
use Rattle.gnb_types.specs.declared.names.NodeId.TheVariants.{CuCp, CuUp, Du, Core, Ue}
use Rattle.gnb_types.specs.declared.names.UeId.{UeId}
use Rattle.gnb_types.specs.declared.keys.EntityKey.{EntityKey}
use Rattle.gnb_types.specs.declared.keys.TunnelEnd.{TunnelEnd}
use Rattle.gnb_types.specs.Orders.{ue_cmp, tunnel_cmp}
use Rattle.tables.specs.Tables.{find, at}
use Rattle.unit_defs.specs.Ways.{Put, control, packet, radio, deliver, dropped, held, opened, closed, failed, no}
use Rattle.transport_defs.specs.declared.Item.{Item}
use Rattle.transport_defs.specs.Links.{is_epoch, emptied}
use Rattle.run_defs.specs.Lines.{RunLine, put_item, delivers, lost_items, was_refused, tunnel_link, radio_link, shown}
use Rattle.run_defs.specs.States.{State, World, Stop, goes, stops, told_before, ◌next◌, goes_on, Within, entity, radio_of, with_radio}
use Rattle.run_defs.specs.Steps.{first_outstanding, entities_of, checked_by, check_spans, noted, count_beside, item_of, on_tunnel, put_on_tunnel, put_on_connected, put_on_radio, put_control, opens, closes, lost_if, radio_lost, lose_each, lose_radios_of, lose_radios, radios_of, same_epoch, epoch_now, connect_in, reconnect, reconnect_node, put_out, put_out_all}
use Rattle.intervals.proofs.Intervals.{all_append}
use Rattle.proof_run_steps.specs.steps.Causes.{Cause, by_order, by_tick, by_octets, by_octets_on, by_attach, by_release, by_offer, by_item, by_air, by_ack, by_control_message, node_of, count_of, first_of}
use Rattle.law_units_act_locally.specs.local_packets.Local.{OneOf}

-- a line that neither puts an item nor delivers; no step refuses its event
abbrev pub IsOther : {M : Type 0} → RunLine M → Type 0
IsOther (put_item link item) = ⊥
IsOther (delivers key count p) = ⊥
IsOther (was_refused reason) = ⊥
IsOther line = Unit {0}

abbrev pub lines_of : {M C L P : Type 0} → Within M C L P → List (RunLine M)
lines_of (goes lines t) = lines
lines_of (stops lines why) = lines

-- ---- a line that stands there stands there later

one_before : {X : Type 0} (R : X → Type 0) (xs ys : List X) → OneOf R xs → OneOf R (xs ++ ys)
one_before R [] ys p = absurd p
one_before R (x ∷ xs) ys (inl is) = inl is
one_before R (x ∷ xs) ys (inr later) = inr (one_before R xs ys later)

pub then_has : {M C L P : Type 0} (R : RunLine M → Type 0) (e : Within M C L P) (f : State M C L P → Within M C L P) → OneOf R (lines_of e)
    → OneOf R (lines_of (e next f))
then_has {M} {C} {L} {P} R (goes lines t) f p = by (f t)
  where
    by : (e : Within M C L P) → OneOf R (lines_of (told_before lines e))
    by (goes more s) = one_before R lines more p
    by (stops more why) = one_before R lines more p
then_has R (stops lines why) f p = p

module _ {M C L P : Type 0} (world : World M C L P) (Q : RunLine M → Type 0) (other : (line : RunLine M) → IsOther line → Q line) where
  abbrev pub AllLines : Within M C L P → Type 0
  AllLines e = AllByRecursion Q (lines_of e)

  abbrev EachTime : (State M C L P → Within M C L P) → Type 0
  EachTime f = (t : State M C L P) → AllLines (f t)

  pub then_lines : (e : Within M C L P) (f : State M C L P → Within M C L P) → AllLines e → EachTime f → AllLines (e next f)
  then_lines (goes lines t) f p q = by (f t) (q t)
    where
      by : (e : Within M C L P) → AllLines e → AllLines (told_before lines e)
      by (goes more s) h = all_append Q lines more p h
      by (stops more why) h = all_append Q lines more p h
  then_lines (stops lines why) f p q = p

  pub checked_lines : EachTime check_spans
  unfolding check_spans
  checked_lines s = by (first_outstanding s (flat_map entities_of s.plans))
    where
      by : (o : Option Stop) → AllLines (checked_by s o)
      by None = tt
      by (Some why) = tt

  on_lines : (s : State M C L P) (end : TunnelEnd) (item : Item L) (o : Option (List (Item L))) → AllLines (on_tunnel world s end item o)
  on_lines s end item None = (other _ tt, tt)
  on_lines s end item (Some items) = tt

  pub tunnel_lines : (end : TunnelEnd) (item : Item L) → Q (put_item (tunnel_link end) (shown item.key item.count (world.show_item item.content)))
      → EachTime (put_on_tunnel world end item)
  unfolding put_on_tunnel
  tunnel_lines end item is s =
      then_lines (goes (put_item (tunnel_link end) (shown item.key item.count (world.show_item item.content)) ∷ []) s)
      (λ t. on_tunnel world t end item (find tunnel_cmp t.tunnels end)) (is, tt) (λ t. on_lines t end item (find tunnel_cmp t.tunnels end))

  connected_lines : (key : EntityKey) (epoch : ℕ) (item : Item P) → EachTime (put_on_connected world key epoch item)
  connected_lines key epoch item s = by (is_epoch (find ue_cmp s.connected key.ue) epoch)
    where
      by : (t : Bool) → AllLines (if t
          then goes_on (with_radio key (record (radio_of s key) { items = (radio_of s key).items ++ item ∷ [] }) s)
          else goes (lost_items (radio_link key epoch) 1 ∷ []) s)
      by true = tt
      by false = (other _ tt, tt)

  radio_lines : (epoch : ℕ) (item : Item P) → Q (put_item (radio_link item.key epoch) (shown item.key item.count (world.show_pdu item.content)))
      → EachTime (put_on_radio world epoch item)
  unfolding put_on_radio
  radio_lines epoch item is s =
      then_lines (goes (put_item (radio_link item.key epoch) (shown item.key item.count (world.show_pdu item.content)) ∷ []) s)
      (put_on_connected world item.key epoch item) (is, tt) (connected_lines item.key epoch item)

  lost_lines : {X : Type 0} (end : TunnelEnd) (xs : List X) → AllByRecursion Q (lost_if world end xs)
  lost_lines end [] = tt
  lost_lines end (x ∷ xs) = (other _ tt, tt)

  radio_lost_lines : (epoch : ℕ) (key : EntityKey) (items : List (Item P)) → AllByRecursion Q (radio_lost world epoch key items)
  radio_lost_lines epoch key [] = tt
  radio_lost_lines epoch key (item ∷ items) = (other _ tt, tt)

  lose_each_lines : (epoch : ℕ) (keys : List EntityKey) → EachTime (lose_each world epoch keys)
  lose_each_lines epoch [] s = tt
  lose_each_lines epoch (key ∷ keys) s =
      then_lines (goes (radio_lost world epoch key (radio_of s key).items) (record s { radios = emptied s.radios key })) (lose_each world epoch keys)
      (radio_lost_lines epoch key (radio_of s key).items) (lose_each_lines epoch keys)

  lose_of_lines : (ue : UeId) (o : Option ℕ) → EachTime (lose_radios_of world ue o)
  lose_of_lines ue None s = tt
  lose_of_lines ue (Some epoch) s = lose_each_lines epoch (radios_of world ue s.radios) s

  lose_lines : (ue : UeId) → EachTime (lose_radios world ue)
  unfolding lose_radios
  lose_lines ue s = lose_of_lines ue (find ue_cmp s.connected ue) s

  reconnect_lines : (ue : UeId) → EachTime (reconnect world ue)
  reconnect_lines ue s = by (same_epoch world (find ue_cmp s.connected ue) (epoch_now world s ue))
    where
      by : (t : Bool) → AllLines (if t then goes_on s
          else (lose_radios world ue s next (λ t. goes_on (connect_in world ue (epoch_now world s ue) t))))
      by true = tt
      by false = then_lines (lose_radios world ue s) (λ t. goes_on (connect_in world ue (epoch_now world s ue) t)) (lose_lines ue s) (λ t. tt)

  node_lines : (node : NodeId) → EachTime (reconnect_node world node)
  node_lines (Ue ue) s = reconnect_lines (record { 0 = ue }) s
  node_lines (CuCp gnb) s = tt
  node_lines (CuUp gnb number) s = tt
  node_lines (Du gnb number) s = tt
  node_lines Core s = tt

  -- ---- outputs

  abbrev pub PutShows : Option ℕ → Put M L P → Type 0
  PutShows taken (packet to teid ue bearer dir tag load) =
      Q (put_item (tunnel_link (record { node = to; teid = teid })) (shown (entity ue bearer dir) (count_beside tag taken) (world.show_item load)))
  PutShows taken (radio ue bearer dir epoch tag pdu) =
      Q (put_item (radio_link (entity ue bearer dir) epoch) (shown (entity ue bearer dir) (count_beside tag taken) (world.show_pdu pdu)))
  PutShows taken (deliver ue bearer dir count p) = Q (delivers (entity ue bearer dir) count p)
  PutShows taken output = Unit {0}

  put_lines : (node : NodeId) (taken : Option ℕ) (output : Put M L P) → PutShows taken output → EachTime (put_out world node taken output)
  unfolding put_control opens closes
  put_lines node taken (control to ue message) is s = (other _ tt, tt)
  put_lines node taken (packet to teid ue bearer dir tag load) is s =
      tunnel_lines (record { node = to; teid = teid }) (item_of world ue bearer dir (count_beside tag taken) load) is (noted (entity ue bearer dir) tag s)
  put_lines node taken (radio ue bearer dir epoch tag pdu) is s =
      radio_lines epoch (item_of world ue bearer dir (count_beside tag taken) pdu) is (noted (entity ue bearer dir) tag s)
  put_lines node taken (deliver ue bearer dir count p) is s = (is, tt)
  put_lines node taken (dropped reason) is s = (other _ tt, tt)
  put_lines node taken (opened teid) is s = tt
  put_lines node taken (closed teid) is s =
      lost_lines (record { node = node; teid = teid }) (at tunnel_cmp [] s.tunnels (record { node = node; teid = teid }))
  put_lines node taken (failed ue cause) is s = (other _ tt, tt)
  put_lines node taken (held reason) is s = tt
  put_lines node taken (no reason) is s = tt

  pub puts_lines : (node : NodeId) (taken : Option ℕ) (outputs : List (Put M L P)) → AllByRecursion (PutShows taken) outputs
      → EachTime (put_out_all world node taken outputs)
  unfolding put_out_all
  puts_lines node taken [] all s = tt
  puts_lines node taken (output ∷ outputs) all s =
      then_lines (put_out world node taken output s) (put_out_all world node taken outputs) (put_lines node taken output all.0 s) (puts_lines node taken outputs all.1)

  first_lines : (cause : Cause M L P) → EachTime (first_of world cause)
  first_lines (by_order node order) s = tt
  first_lines (by_tick node) s = tt
  first_lines (by_octets from to octets) s = tt
  first_lines (by_octets_on end octets) s = tt
  first_lines (by_attach plan) s = tt
  first_lines (by_release gnb ue) s =
      then_lines (lose_radios world ue s) (λ t. goes_on (record (connect_in world ue None t) { gone = t.gone ++ ue ∷ [] })) (lose_lines ue s) (λ t. tt)
  first_lines (by_offer ue bearer p) s = tt
  first_lines (by_item end item rest) s = (other _ tt, tt)
  first_lines (by_air key home item) s = (other _ tt, tt)
  first_lines (by_ack key home item rest) s = tt
  first_lines (by_control_message number l to) s = (other _ tt, tt)

  -- a whole step
  pub step_lines : (cause : Cause M L P) (outputs : List (Put M L P)) (s : State M C L P) → AllByRecursion (PutShows (count_of cause)) outputs
      → AllLines (first_of world cause s next reconnect_node world (node_of cause) next put_out_all world (node_of cause) (count_of cause) outputs next check_spans)
  step_lines cause outputs s all =
      let node : NodeId = node_of cause in
      then_lines (first_of world cause s next reconnect_node world node next put_out_all world node (count_of cause) outputs) check_spans
      (then_lines (first_of world cause s next reconnect_node world node) (put_out_all world node (count_of cause) outputs)
      (then_lines (first_of world cause s) (reconnect_node world node) (first_lines cause s) (node_lines node)) (puts_lines node (count_of cause) outputs all)) checked_lines

  -- what stands in what is taken stands in the step
  pub first_has : (R : RunLine M → Type 0) (cause : Cause M L P) (outputs : List (Put M L P)) (s : State M C L P) → OneOf R (lines_of (first_of world cause s))
      → OneOf R (lines_of (first_of world cause s next reconnect_node world (node_of cause) next put_out_all world (node_of cause) (count_of cause) outputs next check_spans))
  first_has R cause outputs s p =
      let node : NodeId = node_of cause in
      then_has R (first_of world cause s next reconnect_node world node next put_out_all world node (count_of cause) outputs) check_spans
      (then_has R (first_of world cause s next reconnect_node world node) (put_out_all world node (count_of cause) outputs)
      (then_has R (first_of world cause s) (reconnect_node world node) p))
