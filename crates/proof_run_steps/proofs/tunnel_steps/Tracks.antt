-- What is done within a step to one tunnel: outputs open and close it and put items there, and what the step takes is gone.
use Rattle.std.proofs.Common.{◌≡◌, ℕ, Bool, true, false, cond, List, [], ◌∷◌, ◌++◌, Option, Some, None, refl, sym, ap, ◌∙◌, subst, append_assoc}
use Rattle.std.proofs.lemmas.List.{append-nil}
use Rattle.std.specs.Prelude.{if◌then◌else◌, unwrap_or}
use Rattle.std.specs.Ordering.{eq_by_cmp}
use Rattle.std.specs.Cmp.{Equal-is}
use Rattle.std.specs.List.{flat_map, AllByRecursion}
use Rattle.gnb_types.specs.declared.names.NodeId.{NodeId}
use Rattle.gnb_types.specs.declared.names.NodeId.TheVariants.{CuCp, CuUp, Du, Core, Ue}
use Rattle.gnb_types.specs.declared.names.UeId.{UeId}
use Rattle.gnb_types.specs.declared.keys.TunnelEnd.{TunnelEnd}
use Rattle.gnb_types.specs.declared.keys.EntityKey.{EntityKey}
use Rattle.gnb_types.specs.declared.outputs.Tag.{Tag}
use Rattle.gnb_types.specs.declared.outputs.Tag.TheVariants.{Absent, Own, Same}
use Rattle.gnb_types.specs.Orders.{ue_cmp, tunnel_cmp}
use Rattle.gnb_types.proofs.OrderLemmas.{tunnel_total, tunnel_exact}
use Rattle.tables.specs.Tables.{find, at}
use Rattle.tables.proofs.TableLaws.{find-put, find-without}
use Rattle.unit_defs.specs.Ways.{Put, control, packet, radio, deliver, dropped, held, opened, closed, failed, no}
use Rattle.transport_defs.specs.declared.Item.{Item}
use Rattle.transport_defs.specs.Links.{is_epoch, emptied}
use Rattle.run_defs.specs.Lines.{RunLine, put_item, lost_items, tunnel_link, radio_link, shown}
use Rattle.run_defs.specs.Units.{Units}
use Rattle.run_defs.specs.States.{State, World, Stop, goes, stops, told_before, ◌next◌, goes_on, Ending, Within, entity, radio_of, with_radio}
use Rattle.run_defs.specs.Steps.{first_outstanding, entities_of, checked_by, check_spans, noted, count_beside, item_of, on_tunnel, put_on_tunnel, put_on_connected, put_on_radio, put_control, opens, closes, radio_lost, lose_each, lose_radios_of, lose_radios, radios_of, same_epoch, epoch_now, connect_in, reconnect, reconnect_node, put_out, put_out_all, carried_out}
use Rattle.run_defs.specs.Events.{leaves}
use Rattle.proof_run_steps.specs.steps.Causes.{Cause, by_order, by_tick, by_octets, by_octets_on, by_attach, by_release, by_offer, by_item, by_air, by_ack, by_control_message, node_of, count_of, first_of}
use Rattle.proof_run_steps.specs.tunnel_steps.Standing.{standing, is_end, with_item, after_put, after_puts, after_taking, put_by, put_on, Leaves}

module _ {M C L P : Type 0} (world : World M C L P) (end : TunnelEnd) where
  abbrev There : Type 0
  There = Option (List (Item L))

  abbrev pub Has : {X : Type 0} → There → Ending X (State M C L P) → Type 0
  Has there (goes lines t) = standing t end ≡ there
  Has there (stops lines why) = Unit {0}

  abbrev Keeps : (State M C L P → Within M C L P) → Type 0
  Keeps f = (t : State M C L P) → Has (standing t end) (f t)

  pub then_has : (a b : There) (e : Within M C L P) (f : State M C L P → Within M C L P) → Has a e
      → ((t : State M C L P) → standing t end ≡ a → Has b (f t)) → Has b (e next f)
  then_has a b (goes lines t) f p k = by (f t) (k t p)
    where
      by : (e : Within M C L P) → Has b e → Has b (told_before lines e)
      by (goes more s) r = r
      by (stops more why) r = tt
  then_has a b (stops lines why) f p k = tt

  is_as : (a b : There) (e : Within M C L P) → a ≡ b → Has a e → Has b e
  is_as a b (goes lines t) same p = p ∙ same
  is_as a b (stops lines why) same p = tt

  then_kept : (a : There) (e : Within M C L P) (f : State M C L P → Within M C L P) → Has a e → Keeps f → Has a (e next f)
  then_kept a e f p k = then_has a a e f p (λ t at. is_as (standing t end) a (f t) at (k t))

  kept_checked : Keeps check_spans
  unfolding check_spans
  kept_checked s = by (first_outstanding s (flat_map entities_of s.plans))
    where
      by : (o : Option Stop) → Has (standing s end) (checked_by s o)
      by None = refl
      by (Some why) = tt

  kept_connected : (key : EntityKey) (epoch : ℕ) (item : Item P) → Keeps (put_on_connected world key epoch item)
  kept_connected key epoch item s = by (is_epoch (find ue_cmp s.connected key.ue) epoch)
    where
      by : (t : Bool) → Has {X = RunLine M} (standing s end) (if t
          then goes_on (with_radio key (record (radio_of s key) { items = (radio_of s key).items ++ item ∷ [] }) s)
          else goes (lost_items (radio_link key epoch) 1 ∷ []) s)
      by true = refl
      by false = refl

  kept_put_on_radio : (epoch : ℕ) (item : Item P) → Keeps (put_on_radio world epoch item)
  unfolding put_on_radio
  kept_put_on_radio epoch item s =
      then_kept (standing s end) (goes (put_item (radio_link item.key epoch) (shown item.key item.count (world.show_pdu item.content)) ∷ []) s)
      (put_on_connected world item.key epoch item) refl (kept_connected item.key epoch item)

  kept_each : (epoch : ℕ) (keys : List EntityKey) → Keeps (lose_each world epoch keys)
  kept_each epoch [] s = refl
  kept_each epoch (key ∷ keys) s =
      then_kept (standing s end) (goes (radio_lost world epoch key (radio_of s key).items) (record s { radios = emptied s.radios key }))
      (lose_each world epoch keys) refl (kept_each epoch keys)

  kept_of : (ue : UeId) (o : Option ℕ) → Keeps (lose_radios_of world ue o)
  kept_of ue None s = refl
  kept_of ue (Some epoch) s = kept_each epoch (radios_of world ue s.radios) s

  kept_lost : (ue : UeId) → Keeps (lose_radios world ue)
  unfolding lose_radios
  kept_lost ue s = kept_of ue (find ue_cmp s.connected ue) s

  kept_reconnect : (ue : UeId) → Keeps (reconnect world ue)
  kept_reconnect ue s = by (same_epoch world (find ue_cmp s.connected ue) (epoch_now world s ue))
    where
      by : (t : Bool) → Has (standing s end) (if t then goes_on s
          else (lose_radios world ue s next (λ t. goes_on (connect_in world ue (epoch_now world s ue) t))))
      by true = refl
      by false =
          then_kept (standing s end) (lose_radios world ue s) (λ t. goes_on (connect_in world ue (epoch_now world s ue) t)) (kept_lost ue s) (λ t. refl)

  kept_reconnect_node : (node : NodeId) → Keeps (reconnect_node world node)
  kept_reconnect_node (Ue ue) s = kept_reconnect (record { 0 = ue }) s
  kept_reconnect_node (CuCp gnb) s = refl
  kept_reconnect_node (CuUp gnb number) s = refl
  kept_reconnect_node (Du gnb number) s = refl
  kept_reconnect_node Core s = refl

  kept_leaves : (ue : UeId) → Keeps (leaves world ue)
  kept_leaves ue s =
      then_kept (standing s end) (lose_radios world ue s) (λ t. goes_on (record (connect_in world ue None t) { gone = t.gone ++ ue ∷ [] })) (kept_lost ue s)
      (λ t. refl)

  -- ---- outputs

  abbrev if_there : Item L → TunnelEnd → There → There
  if_there item at there = if eq_by_cmp tunnel_cmp end at then with_item item there else there

  on : (at : TunnelEnd) (item : Item L) (s : State M C L P) (o : There) → find tunnel_cmp s.tunnels at ≡ o
      → Has (if_there item at (standing s end)) (on_tunnel world s at item o)
  on at item s o found = by o found (eq_by_cmp tunnel_cmp end at) refl
    where
      same : eq_by_cmp tunnel_cmp end at ≡ true → standing s end ≡ find tunnel_cmp s.tunnels at
      same tie = ap (find tunnel_cmp s.tunnels) (tunnel_exact end at ((Equal-is (tunnel_cmp end at)).0 tie))

      by : (o : There) → find tunnel_cmp s.tunnels at ≡ o → (b : Bool) → eq_by_cmp tunnel_cmp end at ≡ b
          → Has (if b then with_item item (standing s end) else standing s end) (on_tunnel world s at item o)
      by None found true tie = same tie ∙ found ∙ sym (ap (with_item item) (same tie ∙ found))
      by None found false tie = refl
      by (Some items) found true tie =
          find-put tunnel_total s.tunnels at (items ++ item ∷ []) end
          ∙ ap (λ (b : Bool). cond b (Some (items ++ item ∷ [])) (find tunnel_cmp s.tunnels end)) tie
          ∙ sym (ap (with_item item) (same tie ∙ found))
      by (Some items) found false tie =
          find-put tunnel_total s.tunnels at (items ++ item ∷ []) end
          ∙ ap (λ (b : Bool). cond b (Some (items ++ item ∷ [])) (find tunnel_cmp s.tunnels end)) tie

  pub put_there : (at : TunnelEnd) (item : Item L) (s : State M C L P) → Has (if_there item at (standing s end)) (put_on_tunnel world at item s)
  unfolding put_on_tunnel
  put_there at item s =
      then_has (standing s end) (if_there item at (standing s end))
      (goes (put_item (tunnel_link at) (shown item.key item.count (world.show_item item.content)) ∷ []) s)
      (λ t. on_tunnel world t at item (find tunnel_cmp t.tunnels at)) refl
      (λ t same. is_as (if_there item at (standing t end)) (if_there item at (standing s end)) (on_tunnel world t at item (find tunnel_cmp t.tunnels at))
      (ap (if_there item at) same) (on at item t (find tunnel_cmp t.tunnels at) refl))

  noted_tunnels : (key : EntityKey) (tag : Tag) (s : State M C L P) → standing (noted key tag s) end ≡ standing s end
  noted_tunnels key Absent s = refl
  noted_tunnels key (Own count) s = refl
  noted_tunnels key Same s = refl

  one_put : (node : NodeId) (taken : Option ℕ) (output : Put M L P) (s : State M C L P)
      → Has (after_put end node taken output (standing s end)) (put_out world node taken output s)
  unfolding put_control opens closes at
  one_put node taken (control to ue message) s = refl
  one_put node taken (packet to teid ue bearer dir tag load) s =
      let item : Item L = item_of world ue bearer dir (count_beside tag taken) load in
      let at : TunnelEnd = record { node = to; teid = teid } in
      is_as (if_there item at (standing (noted (entity ue bearer dir) tag s) end)) (if_there item at (standing s end))
      (put_on_tunnel world at item (noted (entity ue bearer dir) tag s))
      (ap (if_there item at) (noted_tunnels (entity ue bearer dir) tag s)) (put_there at item (noted (entity ue bearer dir) tag s))
  one_put node taken (radio ue bearer dir epoch tag pdu) s =
      is_as (standing (noted (entity ue bearer dir) tag s) end) (standing s end)
      (put_on_radio world epoch (item_of world ue bearer dir (count_beside tag taken) pdu) (noted (entity ue bearer dir) tag s))
      (noted_tunnels (entity ue bearer dir) tag s)
      (kept_put_on_radio epoch (item_of world ue bearer dir (count_beside tag taken) pdu) (noted (entity ue bearer dir) tag s))
  one_put node taken (deliver ue bearer dir count p) s = refl
  one_put node taken (dropped reason) s = refl
  one_put node taken (opened teid) s =
      let at : TunnelEnd = record { node = node; teid = teid } in
      find-put tunnel_total s.tunnels at (unwrap_or (find tunnel_cmp s.tunnels at) []) end ∙ by at (eq_by_cmp tunnel_cmp end at) refl
    where
      by : (at : TunnelEnd) (b : Bool) → eq_by_cmp tunnel_cmp end at ≡ b
          → cond b (Some (unwrap_or (find tunnel_cmp s.tunnels at) [])) (find tunnel_cmp s.tunnels end)
          ≡ (if b then Some (unwrap_or (standing s end) []) else standing s end)
      by at true tie = ap (λ (e : TunnelEnd). Some (unwrap_or (find tunnel_cmp s.tunnels e) [])) (sym (tunnel_exact end at ((Equal-is (tunnel_cmp end at)).0 tie)))
      by at false tie = refl
  one_put node taken (closed teid) s =
      find-without tunnel_total s.tunnels (record { node = node; teid = teid }) end ∙ by (is_end end node teid)
    where
      by : (b : Bool) → cond b None (find tunnel_cmp s.tunnels end) ≡ (if b then None else standing s end)
      by true = refl
      by false = refl
  one_put node taken (failed ue cause) s = refl
  one_put node taken (held reason) s = refl
  one_put node taken (no reason) s = refl

  all_put : (node : NodeId) (taken : Option ℕ) (outputs : List (Put M L P)) (s : State M C L P)
      → Has (after_puts end node taken outputs (standing s end)) (put_out_all world node taken outputs s)
  unfolding put_out_all
  all_put node taken [] s = refl
  all_put node taken (output ∷ outputs) s =
      then_has (after_put end node taken output (standing s end)) (after_puts end node taken (output ∷ outputs) (standing s end))
      (put_out world node taken output s) (put_out_all world node taken outputs) (one_put node taken output s)
      (λ t at. is_as (after_puts end node taken outputs (standing t end)) (after_puts end node taken (output ∷ outputs) (standing s end))
      (put_out_all world node taken outputs t) (ap (after_puts end node taken outputs) at) (all_put node taken outputs t))

  -- ---- a step

  first_takes : (cause : Cause M L P) (s : State M C L P) (units : Units M C)
      → Has (after_taking end cause (standing s end)) (first_of world cause (record s { units = units }))
  first_takes (by_order node order) s units = refl
  first_takes (by_tick node) s units = refl
  first_takes (by_octets from to octets) s units = refl
  first_takes (by_octets_on at octets) s units = refl
  first_takes (by_attach plan) s units = refl
  first_takes (by_release gnb ue) s units = kept_leaves ue (record s { units = units })
  first_takes (by_offer ue bearer p) s units = refl
  first_takes (by_item at item rest) s units = find-put tunnel_total s.tunnels at rest end ∙ by (eq_by_cmp tunnel_cmp end at)
    where
      by : (b : Bool) → cond b (Some rest) (find tunnel_cmp s.tunnels end) ≡ (if b then Some rest else standing s end)
      by true = refl
      by false = refl
  first_takes (by_air key home item) s units = refl
  first_takes (by_ack key home item rest) s units = refl
  first_takes (by_control_message number l to) s units = refl

  act_tracked : (cause : Cause M L P) (outputs : List (Put M L P)) (units : Units M C) (s : State M C L P)
      → Has (after_puts end (node_of cause) (count_of cause) outputs (after_taking end cause (standing s end)))
      (carried_out world (node_of cause) (count_of cause) (first_of world cause) outputs units s)
  act_tracked cause outputs units s =
      let first : Within M C L P = first_of world cause (record s { units = units }) in
      let taken : There = after_taking end cause (standing s end) in
      let after : There = after_puts end (node_of cause) (count_of cause) outputs taken in
      then_kept after (first next reconnect_node world (node_of cause) next put_out_all world (node_of cause) (count_of cause) outputs) check_spans
      (then_has taken after (first next reconnect_node world (node_of cause)) (put_out_all world (node_of cause) (count_of cause) outputs)
      (then_kept taken first (reconnect_node world (node_of cause)) (first_takes cause s units) (kept_reconnect_node (node_of cause)))
      (λ t at. is_as (after_puts end (node_of cause) (count_of cause) outputs (standing t end)) after (put_out_all world (node_of cause) (count_of cause) outputs t)
      (ap (after_puts end (node_of cause) (count_of cause) outputs) at) (all_put (node_of cause) (count_of cause) outputs t)))
      kept_checked

  pub acts_so : (cause : Cause M L P) (outputs : List (Put M L P)) (units : Units M C) (s t : State M C L P) (lines : List (RunLine M))
      → carried_out world (node_of cause) (count_of cause) (first_of world cause) outputs units s ≡ goes lines t
      → standing t end ≡ after_puts end (node_of cause) (count_of cause) outputs (after_taking end cause (standing s end))
  acts_so cause outputs units s t lines is =
      subst (Has {X = RunLine M} (after_puts end (node_of cause) (count_of cause) outputs (after_taking end cause (standing s end)))) is (act_tracked cause outputs units s)

  pub puts_so : (node : NodeId) (taken : Option ℕ) (outputs : List (Put M L P)) (s t : State M C L P) (lines : List (RunLine M))
      → (put_out_all world node taken outputs s next check_spans) ≡ goes lines t → standing t end ≡ after_puts end node taken outputs (standing s end)
  puts_so node taken outputs s t lines is =
      subst (Has {X = RunLine M} (after_puts end node taken outputs (standing s end))) is
      (then_kept (after_puts end node taken outputs (standing s end)) (put_out_all world node taken outputs s) check_spans (all_put node taken outputs s) kept_checked)

-- ---- a tunnel that stays open

module _ {M L P : Type 0} (end : TunnelEnd) (node : NodeId) (taken : Option ℕ) where
  left_so : (output : Put M L P) (items : List (Item L)) → Leaves end node output
      → after_put end node taken output (Some items) ≡ Some (items ++ put_by end taken output)
  left_so (packet to teid ue bearer dir tag load) items leaves_it = by (is_end end to teid) _
    where
      by : (b : Bool) (item : Item L) → (if b then with_item item (Some items) else Some items) ≡ Some (items ++ (if b then item ∷ [] else []))
      by true item = refl
      by false item = ap (λ is. Some is) (sym (append-nil items))
  left_so (opened teid) items leaves_it =
      ap (λ (b : Bool). if b then Some items else Some items) leaves_it ∙ ap (λ is. Some is) (sym (append-nil items))
  left_so (closed teid) items leaves_it =
      ap (λ (b : Bool). if b then None else Some items) leaves_it ∙ ap (λ is. Some is) (sym (append-nil items))
  left_so (control to ue message) items leaves_it = ap (λ is. Some is) (sym (append-nil items))
  left_so (radio ue bearer dir epoch tag pdu) items leaves_it = ap (λ is. Some is) (sym (append-nil items))
  left_so (deliver ue bearer dir count p) items leaves_it = ap (λ is. Some is) (sym (append-nil items))
  left_so (dropped reason) items leaves_it = ap (λ is. Some is) (sym (append-nil items))
  left_so (held reason) items leaves_it = ap (λ is. Some is) (sym (append-nil items))
  left_so (failed ue cause) items leaves_it = ap (λ is. Some is) (sym (append-nil items))
  left_so (no reason) items leaves_it = ap (λ is. Some is) (sym (append-nil items))

  pub comes_after : (outputs : List (Put M L P)) (items : List (Item L)) → AllByRecursion (Leaves end node) outputs
      → after_puts end node taken outputs (Some items) ≡ Some (items ++ put_on end taken outputs)
  comes_after [] items all = ap (λ is. Some is) (sym (append-nil items))
  comes_after (output ∷ outputs) items all =
      ap (after_puts end node taken outputs) (left_so output items all.0)
      ∙ comes_after outputs (items ++ put_by end taken output) all.1
      ∙ ap (λ is. Some is) (append_assoc items (put_by end taken output) (put_on end taken outputs))
