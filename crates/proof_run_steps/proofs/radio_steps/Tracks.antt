-- What is done within a step to one radio: what is carried and confirmed there, what is lost, and what outputs put there.
use Rattle.std.proofs.Common.{◌≡◌, ℕ, ◌==◌, Bool, true, false, cond, ◌&&◌, ◌||◌, List, [], ◌∷◌, ◌++◌, Option, Some, None, refl, sym, ap, ◌∙◌, subst, eqb-true, arith}
use Rattle.std.specs.Prelude.{◌+◌, ◌-◌, if◌then◌else◌, unwrap_or}
use Rattle.std.specs.Ordering.{eq_by_cmp, is_eq}
use Rattle.std.specs.Cmp.{Equal-is, tied_itself}
use Rattle.std.specs.List.{flat_map}
use Rattle.std.specs.Map.{lookup}
use Rattle.std.specs.BTreeMap.{is_at}
use Rattle.gnb_types.specs.declared.names.NodeId.{NodeId}
use Rattle.gnb_types.specs.declared.names.NodeId.TheVariants.{CuCp, CuUp, Du, Core, Ue}
use Rattle.gnb_types.specs.declared.names.UeId.{UeId}
use Rattle.gnb_types.specs.declared.keys.TunnelEnd.{TunnelEnd}
use Rattle.gnb_types.specs.declared.keys.EntityKey.{EntityKey}
use Rattle.gnb_types.specs.declared.outputs.Tag.{Tag}
use Rattle.gnb_types.specs.declared.outputs.Tag.TheVariants.{Absent, Own, Same}
use Rattle.gnb_types.specs.Orders.{ue_cmp, entity_cmp, tunnel_cmp}
use Rattle.gnb_types.proofs.OrderLemmas.{ue_total, ue_exact, entity_total, entity_exact}
use Rattle.tables.specs.Tables.{find, at}
use Rattle.tables.proofs.TableLaws.{find-put, find-without, at-put, at-without}
use Rattle.unit_defs.specs.Ways.{Put, control, packet, radio, deliver, dropped, held, opened, closed, failed, no}
use Rattle.transport_defs.specs.declared.Item.{Item}
use Rattle.transport_defs.specs.Links.{Radio, silent, is_epoch, emptied, connect}
use Rattle.run_defs.specs.Lines.{RunLine, got_item, got_message, put_item, lost_items, tunnel_link, radio_link, shown}
use Rattle.run_defs.specs.Units.{Units}
use Rattle.run_defs.specs.States.{State, World, Stop, goes, stops, told_before, ◌next◌, goes_on, Ending, Within, entity, radio_of, with_radio}
use Rattle.run_defs.specs.Steps.{first_outstanding, entities_of, checked_by, check_spans, noted, count_beside, item_of, on_tunnel, put_on_tunnel, put_on_connected, put_on_radio, put_control, opens, closes, radio_lost, lose_each, lose_radios_of, lose_radios, radios_of, same_epoch, epoch_now, connect_in, reconnect, reconnect_node, put_out, put_out_all, carried_out}
use Rattle.run_defs.specs.Conditions.{epoch_of}
use Rattle.run_defs.specs.Events.{leaves}
use Rattle.proof_run_steps.specs.steps.Causes.{Cause, by_order, by_tick, by_octets, by_octets_on, by_attach, by_release, by_offer, by_item, by_air, by_ack, by_control_message, node_of, count_of, first_of}
use Rattle.proof_run_steps.specs.radio_steps.Radios.{OnAir, on_air, lost_in, after_taking, with_item, after_put, after_puts, moved_to, followed, after_step}

module _ {M C L P : Type 0} (world : World M C L P) (key : EntityKey) where
  abbrev pub Has : {X : Type 0} → OnAir P → Ending X (State M C L P) → Type 0
  Has a (goes lines t) = on_air t key ≡ a
  Has a (stops lines why) = Unit {0}

  abbrev Keeps : (State M C L P → Within M C L P) → Type 0
  Keeps f = (t : State M C L P) → Has (on_air t key) (f t)

  told_has : (a : OnAir P) (lines : List (RunLine M)) (e : Within M C L P) → Has a e → Has a (told_before lines e)
  told_has a lines (goes more s) r = r
  told_has a lines (stops more why) r = tt

  then_has : (a b : OnAir P) (e : Within M C L P) (f : State M C L P → Within M C L P) → Has a e
      → ((t : State M C L P) → on_air t key ≡ a → Has b (f t)) → Has b (e next f)
  then_has a b (goes lines t) f p k = told_has b lines (f t) (k t p)
  then_has a b (stops lines why) f p k = tt

  is_as : (a b : OnAir P) (e : Within M C L P) → a ≡ b → Has a e → Has b e
  is_as a b (goes lines t) same p = p ∙ same
  is_as a b (stops lines why) same p = tt

  then_kept : (a : OnAir P) (e : Within M C L P) (f : State M C L P → Within M C L P) → Has a e → Keeps f → Has a (e next f)
  then_kept a e f p k = then_has a a e f p (λ t at. is_as (on_air t key) a (f t) at (k t))

  kept_checked : Keeps check_spans
  unfolding check_spans
  kept_checked s = by (first_outstanding s (flat_map entities_of s.plans))
    where
      by : (o : Option Stop) → Has (on_air s key) (checked_by s o)
      by None = refl
      by (Some why) = tt

  kept_on : (s : State M C L P) (end : TunnelEnd) (item : Item L) (o : Option (List (Item L))) → Has (on_air s key) (on_tunnel world s end item o)
  kept_on s end item None = refl
  kept_on s end item (Some items) = refl

  kept_put_on_tunnel : (end : TunnelEnd) (item : Item L) → Keeps (put_on_tunnel world end item)
  unfolding put_on_tunnel
  kept_put_on_tunnel end item s =
      then_kept (on_air s key) (goes (put_item (tunnel_link end) (shown item.key item.count (world.show_item item.content)) ∷ []) s)
      (λ t. on_tunnel world t end item (find tunnel_cmp t.tunnels end)) refl (λ t. kept_on t end item (find tunnel_cmp t.tunnels end))

  -- ---- an item is put on a radio

  abbrev if_there : EntityKey → ℕ → Item P → OnAir P → OnAir P
  if_there to epoch item a = if eq_by_cmp entity_cmp key to && is_epoch a.epoch epoch then with_item item a else a

  of_radio : State M C L P → Radio P → OnAir P
  of_radio s r = record { epoch = find ue_cmp s.connected key.ue; radio = r }

  on_connected : (to : EntityKey) (epoch : ℕ) (item : Item P) (s : State M C L P)
      → Has (if_there to epoch item (on_air s key)) (put_on_connected world to epoch item s)
  on_connected to epoch item s = by (eq_by_cmp entity_cmp key to) refl (is_epoch (find ue_cmp s.connected to.ue) epoch) refl
    where
      more : EntityKey → Radio P
      more k = record (radio_of s k) { items = (radio_of s k).items ++ item ∷ [] }

      there : (b : Bool) → eq_by_cmp entity_cmp key to ≡ b
          → ◌≡◌ {A = OnAir P} (on_air (with_radio to (record (radio_of s to) { items = (radio_of s to).items ++ item ∷ [] }) s) key)
          (record { epoch = find ue_cmp s.connected key.ue; radio = cond b (record (radio_of s to) { items = (radio_of s to).items ++ item ∷ [] }) (radio_of s key) })
      there b tie =
          ap (λ (r : Radio P). record { epoch = find ue_cmp s.connected key.ue; radio = r })
          (at-put entity_total silent s.radios to (record (radio_of s to) { items = (radio_of s to).items ++ item ∷ [] }) key
          ∙ ap (λ (c : Bool). cond c (record (radio_of s to) { items = (radio_of s to).items ++ item ∷ [] }) (radio_of s key)) tie)

      same : eq_by_cmp entity_cmp key to ≡ true → key ≡ to
      same tie = entity_exact key to ((Equal-is (entity_cmp key to)).0 tie)

      here : eq_by_cmp entity_cmp key to ≡ true → (o : Bool) → is_epoch (find ue_cmp s.connected to.ue) epoch ≡ o
          → (if o then with_item item (on_air s key) else on_air s key)
          ≡ (if is_epoch (find ue_cmp s.connected key.ue) epoch then with_item item (on_air s key) else on_air s key)
      here tie o is =
          ap (λ (b : Bool). if b then with_item item (on_air s key) else on_air s key)
          (sym is ∙ ap (λ (k : EntityKey). is_epoch (find ue_cmp s.connected k.ue) epoch) (sym (same tie)))

      by : (b : Bool) → eq_by_cmp entity_cmp key to ≡ b → (o : Bool) → is_epoch (find ue_cmp s.connected to.ue) epoch ≡ o
          → Has {X = RunLine M} (if b && is_epoch (find ue_cmp s.connected key.ue) epoch then with_item item (on_air s key) else on_air s key)
          (if o then goes_on (with_radio to (record (radio_of s to) { items = (radio_of s to).items ++ item ∷ [] }) s)
          else goes (lost_items (radio_link to epoch) 1 ∷ []) s)
      by false apart false off = refl
      by false apart true on = there false apart
      by true tie false off = here tie false off
      by true tie true on =
          there true tie
          ∙ ap (λ (k : EntityKey). record { epoch = find ue_cmp s.connected key.ue; radio = record (radio_of s k) { items = (radio_of s k).items ++ item ∷ [] } })
          (sym (same tie))
          ∙ here tie true on

  put_there : (epoch : ℕ) (item : Item P) (s : State M C L P) → Has (if_there item.key epoch item (on_air s key)) (put_on_radio world epoch item s)
  unfolding put_on_radio
  put_there epoch item s =
      told_has (if_there item.key epoch item (on_air s key)) (put_item (radio_link item.key epoch) (shown item.key item.count (world.show_pdu item.content)) ∷ [])
      (put_on_connected world item.key epoch item s) (on_connected item.key epoch item s)

  -- ---- what is lost

  any_of : List EntityKey → Bool
  any_of [] = false
  any_of (k ∷ keys) = eq_by_cmp entity_cmp key k || any_of keys

  lost_if : Bool → OnAir P → OnAir P
  lost_if b a = record { epoch = a.epoch; radio = if b then silent else a.radio }

  lost_each : (epoch : ℕ) (keys : List EntityKey) (s : State M C L P) → Has (lost_if (any_of keys) (on_air s key)) (lose_each world epoch keys s)
  unfolding any_of lost_if
  lost_each epoch [] s = refl
  lost_each epoch (k ∷ keys) s =
      told_has (lost_if (any_of (k ∷ keys)) (on_air s key)) (radio_lost world epoch k (radio_of s k).items)
      (lose_each world epoch keys (record s { radios = emptied s.radios k }))
      (is_as (lost_if (any_of keys) (on_air (record s { radios = emptied s.radios k }) key)) (lost_if (any_of (k ∷ keys)) (on_air s key))
      (lose_each world epoch keys (record s { radios = emptied s.radios k }))
      (ap (λ (r : Radio P). record { epoch = find ue_cmp s.connected key.ue; radio = if any_of keys then silent else r })
      (at-without entity_total silent s.radios k key)
      ∙ ap (λ (r : Radio P). record { epoch = find ue_cmp s.connected key.ue; radio = r }) (by (any_of keys) (eq_by_cmp entity_cmp key k)))
      (lost_each epoch keys (record s { radios = emptied s.radios k })))
    where
      by : (a b : Bool) → (if a then silent else cond b silent (radio_of s key)) ≡ (if b || a then silent else radio_of s key)
      by true true = refl
      by true false = refl
      by false true = refl
      by false false = refl

  ue_of_number : (a b : UeId) → a.0 ≡ b.0 → a ≡ b
  ue_of_number a b e = ap (λ (n : ℕ). record { 0 = n }) e

  number_same : (a : ℕ) → (a == a) ≡ true
  number_same a = grind arith

  at_next : (e : EntityKey × Radio P) (rs : List (EntityKey × Radio P)) → eq_by_cmp entity_cmp key e.0 ≡ false
      → at entity_cmp silent (e ∷ rs) key ≡ at entity_cmp silent rs key
  unfolding at find
  at_next e rs apart = ap (λ (c : Bool). unwrap_or (cond c (Some e.1) (lookup (is_at (entity_cmp key)) rs)) silent) apart

  own_lost : (rs : List (EntityKey × Radio P)) → (if any_of (radios_of world key.ue rs) then silent else at entity_cmp silent rs key) ≡ silent
  unfolding any_of at find
  own_lost [] = refl
  own_lost (e ∷ rs) = by (eq_by_cmp entity_cmp key e.0) refl (e.0.ue.0 == key.ue.0) refl (own_lost rs)
    where
      by : (c : Bool) → eq_by_cmp entity_cmp key e.0 ≡ c → (b : Bool) → (e.0.ue.0 == key.ue.0) ≡ b
          → (if any_of (radios_of world key.ue rs) then silent else at entity_cmp silent rs key) ≡ silent
          → (if any_of ((if b then e.0 ∷ [] else []) ++ radios_of world key.ue rs) then silent else at entity_cmp silent (e ∷ rs) key) ≡ silent
      by true tie true its again =
          ap (λ (d : Bool). if d || any_of (radios_of world key.ue rs) then silent else at entity_cmp silent (e ∷ rs) key) tie
      by true tie false its again =
          absurd (let is : (e.0.ue.0 == key.ue.0) ≡ true
          = ap (λ (k : EntityKey). k.ue.0 == key.ue.0) (sym (entity_exact key e.0 ((Equal-is (entity_cmp key e.0)).0 tie))) ∙ number_same key.ue.0 in
          let never : true ≡ false = sym is ∙ its in cc)
      by false apart true its again =
          ap (λ (d : Bool). if d || any_of (radios_of world key.ue rs) then silent else at entity_cmp silent (e ∷ rs) key) apart
          ∙ ap (λ (r : Radio P). if any_of (radios_of world key.ue rs) then silent else r) (at_next e rs apart) ∙ again
      by false apart false its again = ap (λ (r : Radio P). if any_of (radios_of world key.ue rs) then silent else r) (at_next e rs apart) ∙ again

  others_not : (ue : UeId) (rs : List (EntityKey × Radio P)) → (key.ue ≡ ue → ⊥) → any_of (radios_of world ue rs) ≡ false
  unfolding any_of
  others_not ue [] far = refl
  others_not ue (e ∷ rs) far = by (e.0.ue.0 == ue.0) refl (others_not ue rs far)
    where
      by : (b : Bool) → (e.0.ue.0 == ue.0) ≡ b → any_of (radios_of world ue rs) ≡ false
          → any_of ((if b then e.0 ∷ [] else []) ++ radios_of world ue rs) ≡ false
      by false its again = again
      by true its again = by_key (eq_by_cmp entity_cmp key e.0) refl
        where
          by_key : (c : Bool) → eq_by_cmp entity_cmp key e.0 ≡ c → (eq_by_cmp entity_cmp key e.0 || any_of (radios_of world ue rs)) ≡ false
          by_key false apart = (λ i. apart i || again i)
          by_key true tie =
              absurd (far (ap (λ (k : EntityKey). k.ue) (entity_exact key e.0 ((Equal-is (entity_cmp key e.0)).0 tie))
              ∙ ue_of_number e.0.ue ue (eqb-true e.0.ue.0 ue.0 its)))

  number_differs : (ue : UeId) → eq_by_cmp ue_cmp key.ue ue ≡ false → key.ue ≡ ue → ⊥
  number_differs ue apart same =
      let tie : eq_by_cmp ue_cmp key.ue key.ue ≡ true = ap is_eq (tied_itself ue_total key.ue) in
      let never : true ≡ false = sym tie ∙ ap (λ (u : UeId). eq_by_cmp ue_cmp key.ue u) same ∙ apart in absurd cc

  -- all radios of a terminal
  lost_own : (o : Option ℕ) (s : State M C L P)
      → Has (record { epoch = find ue_cmp s.connected key.ue; radio = lost_in o (radio_of s key) }) (lose_radios_of world key.ue o s)
  unfolding lost_if
  lost_own None s = refl
  lost_own (Some epoch) s =
      is_as (lost_if (any_of (radios_of world key.ue s.radios)) (on_air s key))
      (record { epoch = find ue_cmp s.connected key.ue; radio = silent }) (lose_each world epoch (radios_of world key.ue s.radios) s)
      (own_if s) (lost_each epoch (radios_of world key.ue s.radios) s)
    where
      own_if : (s : State M C L P) → lost_if (any_of (radios_of world key.ue s.radios)) (on_air s key)
          ≡ record { epoch = find ue_cmp s.connected key.ue; radio = silent }
      own_if s = ap (λ (r : Radio P). record { epoch = find ue_cmp s.connected key.ue; radio = r }) (own_lost s.radios)

  lost_others : (ue : UeId) (o : Option ℕ) (s : State M C L P) → (key.ue ≡ ue → ⊥) → Has (on_air s key) (lose_radios_of world ue o s)
  unfolding lost_if
  lost_others ue None s far = refl
  lost_others ue (Some epoch) s far =
      is_as (lost_if (any_of (radios_of world ue s.radios)) (on_air s key)) (on_air s key) (lose_each world epoch (radios_of world ue s.radios) s)
      (same s) (lost_each epoch (radios_of world ue s.radios) s)
    where
      same : (s : State M C L P) → lost_if (any_of (radios_of world ue s.radios)) (on_air s key) ≡ on_air s key
      same s = ap (λ (b : Bool). record { epoch = find ue_cmp s.connected key.ue; radio = if b then silent else radio_of s key }) (others_not ue s.radios far)

  connected_own : (o : Option ℕ) (s : State M C L P) → find ue_cmp (connect s.connected key.ue o) key.ue ≡ o
  connected_own None s =
      find-without ue_total s.connected key.ue key.ue
      ∙ ap (λ (b : Bool). cond b None (find ue_cmp s.connected key.ue)) (ap is_eq (tied_itself ue_total key.ue))
  connected_own (Some epoch) s =
      find-put ue_total s.connected key.ue epoch key.ue
      ∙ ap (λ (b : Bool). cond b (Some epoch) (find ue_cmp s.connected key.ue)) (ap is_eq (tied_itself ue_total key.ue))

  connected_others : (ue : UeId) → eq_by_cmp ue_cmp key.ue ue ≡ false → (o : Option ℕ) (s : State M C L P)
      → find ue_cmp (connect s.connected ue o) key.ue ≡ find ue_cmp s.connected key.ue
  connected_others ue apart None s =
      find-without ue_total s.connected ue key.ue ∙ ap (λ (b : Bool). cond b None (find ue_cmp s.connected key.ue)) apart
  connected_others ue apart (Some epoch) s =
      find-put ue_total s.connected ue epoch key.ue ∙ ap (λ (b : Bool). cond b (Some epoch) (find ue_cmp s.connected key.ue)) apart

  -- lost, and connected in this epoch then
  left_own : (now : Option ℕ) (s : State M C L P) (g : State M C L P → State M C L P)
      → ((t : State M C L P) → on_air (g t) key ≡ on_air (connect_in world key.ue now t) key)
      → Has (record { epoch = now; radio = lost_in (find ue_cmp s.connected key.ue) (radio_of s key) }) (lose_radios world key.ue s next (λ t. goes_on (g t)))
  unfolding lose_radios
  left_own now s g like =
      then_has (record { epoch = find ue_cmp s.connected key.ue; radio = lost_in (find ue_cmp s.connected key.ue) (radio_of s key) })
      (record { epoch = now; radio = lost_in (find ue_cmp s.connected key.ue) (radio_of s key) })
      (lose_radios_of world key.ue (find ue_cmp s.connected key.ue) s) (λ t. goes_on (g t)) (lost_own (find ue_cmp s.connected key.ue) s)
      (λ t at. like t ∙ (λ i. record { epoch = connected_own now t i; radio = (ap (λ (a : OnAir P). a.radio) at) i }))

  left_others : (ue : UeId) → eq_by_cmp ue_cmp key.ue ue ≡ false → (now : Option ℕ) (s : State M C L P) (g : State M C L P → State M C L P)
      → ((t : State M C L P) → on_air (g t) key ≡ on_air (connect_in world ue now t) key)
      → Has (on_air s key) (lose_radios world ue s next (λ t. goes_on (g t)))
  unfolding lose_radios
  left_others ue apart now s g like =
      then_has (on_air s key) (on_air s key) (lose_radios_of world ue (find ue_cmp s.connected ue) s) (λ t. goes_on (g t))
      (lost_others ue (find ue_cmp s.connected ue) s (number_differs ue apart))
      (λ t at. like t ∙ ap (λ (e : Option ℕ). record { epoch = e; radio = radio_of t key }) (connected_others ue apart now t) ∙ at)

  -- ---- radios follow their terminal

  reconnects_own : (s : State M C L P) → Has (moved_to world (epoch_now world s key.ue) (on_air s key)) (reconnect world key.ue s)
  reconnects_own s = by (same_epoch world (find ue_cmp s.connected key.ue) (epoch_now world s key.ue))
    where
      by : (t : Bool) → Has (if t then on_air s key
          else record { epoch = epoch_now world s key.ue; radio = lost_in (find ue_cmp s.connected key.ue) (radio_of s key) })
          (if t then goes_on s else (lose_radios world key.ue s next (λ t. goes_on (connect_in world key.ue (epoch_now world s key.ue) t))))
      by true = refl
      by false = left_own (epoch_now world s key.ue) s (connect_in world key.ue (epoch_now world s key.ue)) (λ t. refl)

  reconnects_others : (ue : UeId) → eq_by_cmp ue_cmp key.ue ue ≡ false → (s : State M C L P) → Has (on_air s key) (reconnect world ue s)
  reconnects_others ue apart s = by (same_epoch world (find ue_cmp s.connected ue) (epoch_now world s ue))
    where
      by : (t : Bool) → Has (on_air s key)
          (if t then goes_on s else (lose_radios world ue s next (λ t. goes_on (connect_in world ue (epoch_now world s ue) t))))
      by true = refl
      by false = left_others ue apart (epoch_now world s ue) s (connect_in world ue (epoch_now world s ue)) (λ t. refl)

  follows : (node : NodeId) (s : State M C L P) → Has (followed world key node (epoch_now world s key.ue) (on_air s key)) (reconnect_node world node s)
  follows (Ue n) s = by (record { 0 = n }) (eq_by_cmp ue_cmp key.ue (record { 0 = n })) refl
    where
      by : (ue : UeId) (b : Bool) → eq_by_cmp ue_cmp key.ue ue ≡ b
          → Has (if b then moved_to world (epoch_now world s key.ue) (on_air s key) else on_air s key) (reconnect world ue s)
      by ue true tie =
          subst (λ (w : UeId). Has (moved_to world (epoch_now world s key.ue) (on_air s key)) (reconnect world w s))
          (ue_exact key.ue ue ((Equal-is (ue_cmp key.ue ue)).0 tie)) (reconnects_own s)
      by ue false apart = reconnects_others ue apart s
  follows (CuCp gnb) s = refl
  follows (CuUp gnb number) s = refl
  follows (Du gnb number) s = refl
  follows Core s = refl

  -- ---- outputs

  noted_air : (to : EntityKey) (tag : Tag) (s : State M C L P) → on_air (noted to tag s) key ≡ on_air s key
  noted_air to Absent s = refl
  noted_air to (Own count) s = refl
  noted_air to Same s = refl

  one_put : (node : NodeId) (taken : Option ℕ) (output : Put M L P) (s : State M C L P)
      → Has (after_put key taken output (on_air s key)) (put_out world node taken output s)
  unfolding put_control opens closes
  one_put node taken (control to ue message) s = refl
  one_put node taken (packet to teid ue bearer dir tag load) s =
      is_as (on_air (noted (entity ue bearer dir) tag s) key) (on_air s key)
      (put_on_tunnel world (record { node = to; teid = teid }) (item_of world ue bearer dir (count_beside tag taken) load) (noted (entity ue bearer dir) tag s))
      (noted_air (entity ue bearer dir) tag s)
      (kept_put_on_tunnel (record { node = to; teid = teid }) (item_of world ue bearer dir (count_beside tag taken) load) (noted (entity ue bearer dir) tag s))
  one_put node taken (radio ue bearer dir epoch tag pdu) s =
      let item : Item P = item_of world ue bearer dir (count_beside tag taken) pdu in
      is_as (if_there (entity ue bearer dir) epoch item (on_air (noted (entity ue bearer dir) tag s) key))
      (if_there (entity ue bearer dir) epoch item (on_air s key))
      (put_on_radio world epoch item (noted (entity ue bearer dir) tag s))
      (ap (if_there (entity ue bearer dir) epoch item) (noted_air (entity ue bearer dir) tag s))
      (put_there epoch item (noted (entity ue bearer dir) tag s))
  one_put node taken (deliver ue bearer dir count p) s = refl
  one_put node taken (dropped reason) s = refl
  one_put node taken (opened teid) s = refl
  one_put node taken (closed teid) s = refl
  one_put node taken (failed ue cause) s = refl
  one_put node taken (held reason) s = refl
  one_put node taken (no reason) s = refl

  all_put : (node : NodeId) (taken : Option ℕ) (outputs : List (Put M L P)) (s : State M C L P)
      → Has (after_puts key taken outputs (on_air s key)) (put_out_all world node taken outputs s)
  unfolding put_out_all
  all_put node taken [] s = refl
  all_put node taken (output ∷ outputs) s =
      then_has (after_put key taken output (on_air s key)) (after_puts key taken (output ∷ outputs) (on_air s key))
      (put_out world node taken output s) (put_out_all world node taken outputs) (one_put node taken output s)
      (λ t at. is_as (after_puts key taken outputs (on_air t key)) (after_puts key taken (output ∷ outputs) (on_air s key))
      (put_out_all world node taken outputs t) (ap (after_puts key taken outputs) at) (all_put node taken outputs t))

  -- ---- a step

  -- where the step takes its item, the terminal is as it was
  taken_then : (lines : List (RunLine M)) (node : NodeId) (s t : State M C L P) (a : OnAir P) → on_air t key ≡ a
      → epoch_now world t key.ue ≡ epoch_now world s key.ue
      → Has (followed world key node (epoch_now world s key.ue) a) (told_before lines (reconnect_node world node t))
  taken_then lines node s t a at same =
      told_has (followed world key node (epoch_now world s key.ue) a) lines (reconnect_node world node t)
      (is_as (followed world key node (epoch_now world t key.ue) (on_air t key)) (followed world key node (epoch_now world s key.ue) a)
      (reconnect_node world node t) (λ i. followed world key node (same i) (at i)) (follows node t))

  radio_taken : (to : EntityKey) (s : State M C L P) (f : Radio P → Radio P)
      → on_air (with_radio to (f (radio_of s to)) s) key
      ≡ (if eq_by_cmp entity_cmp key to then record { epoch = find ue_cmp s.connected key.ue; radio = f (radio_of s key) } else on_air s key)
  radio_taken to s f =
      ap (λ (r : Radio P). record { epoch = find ue_cmp s.connected key.ue; radio = r })
      (at-put entity_total silent s.radios to (f (radio_of s to)) key) ∙ by (eq_by_cmp entity_cmp key to) refl
    where
      by : (b : Bool) → eq_by_cmp entity_cmp key to ≡ b
          → ◌≡◌ {A = OnAir P} (record { epoch = find ue_cmp s.connected key.ue; radio = cond b (f (radio_of s to)) (radio_of s key) })
          (if b then record { epoch = find ue_cmp s.connected key.ue; radio = f (radio_of s key) } else on_air s key)
      by true tie =
          ap (λ (k : EntityKey). record { epoch = find ue_cmp s.connected key.ue; radio = f (radio_of s k) })
          (sym (entity_exact key to ((Equal-is (entity_cmp key to)).0 tie)))
      by false apart = refl

  released : (ue : UeId) (s : State M C L P)
      → Has (if eq_by_cmp ue_cmp key.ue ue then record { epoch = None; radio = lost_in (find ue_cmp s.connected key.ue) (radio_of s key) } else on_air s key)
      (leaves world ue s)
  released ue s = by ue (eq_by_cmp ue_cmp key.ue ue) refl
    where
      by : (w : UeId) (b : Bool) → eq_by_cmp ue_cmp key.ue w ≡ b
          → Has (if b then record { epoch = None; radio = lost_in (find ue_cmp s.connected key.ue) (radio_of s key) } else on_air s key) (leaves world w s)
      by w true tie =
          subst (λ (v : UeId). Has (record { epoch = None; radio = lost_in (find ue_cmp s.connected key.ue) (radio_of s key) }) (leaves world v s))
          (ue_exact key.ue w ((Equal-is (ue_cmp key.ue w)).0 tie))
          (left_own None s (λ t. record (connect_in world key.ue None t) { gone = t.gone ++ key.ue ∷ [] }) (λ t. refl))
      by w false apart = left_others w apart None s (λ t. record (connect_in world w None t) { gone = t.gone ++ w ∷ [] }) (λ t. refl)

  first_then : (cause : Cause M L P) (s : State M C L P)
      → Has (followed world key (node_of cause) (epoch_now world s key.ue) (after_taking key cause (on_air s key)))
      (first_of world cause s next reconnect_node world (node_of cause))
  first_then (by_order node order) s = taken_then [] node s s (on_air s key) refl refl
  first_then (by_tick node) s = taken_then [] node s s (on_air s key) refl refl
  first_then (by_octets from to octets) s = taken_then [] to s s (on_air s key) refl refl
  first_then (by_octets_on end octets) s = taken_then [] end.node s s (on_air s key) refl refl
  first_then (by_attach plan) s = refl
  first_then (by_release gnb ue) s =
      let cause : Cause M L P = by_release gnb ue in
      then_kept (after_taking key cause (on_air s key)) (leaves world ue s) (reconnect_node world (CuCp gnb)) (released ue s) (λ t. refl)
  first_then (by_offer ue bearer p) s = taken_then [] (Ue ue.0) s _ (on_air s key) refl refl
  first_then (by_item end item rest) s =
      taken_then (got_item (tunnel_link end) (shown item.key item.count (world.show_item item.content)) ∷ []) end.node s _ (on_air s key) refl refl
  first_then (by_air from home item) s =
      let cause : Cause M L P = by_air from home item in
      taken_then (got_item (radio_link from (epoch_of s from.ue)) (shown item.key item.count (world.show_pdu item.content)) ∷ []) (node_of cause) s _
      (after_taking key cause (on_air s key)) (radio_taken from s (λ r. record r { carried = r.carried + 1 })) refl
  first_then (by_ack from home item rest) s =
      let cause : Cause M L P = by_ack from home item rest in
      taken_then [] (node_of cause) s _ (after_taking key cause (on_air s key)) (radio_taken from s (λ r. record { items = rest; carried = r.carried - 1 })) refl
  first_then (by_control_message number l to) s = taken_then (got_message number l ∷ []) to s _ (on_air s key) refl refl

  act_tracked : (cause : Cause M L P) (outputs : List (Put M L P)) (units : Units M C) (s : State M C L P)
      → Has (after_step world key cause outputs units s) (carried_out world (node_of cause) (count_of cause) (first_of world cause) outputs units s)
  act_tracked cause outputs units s =
      let t : State M C L P = record s { units = units } in
      let before : OnAir P = followed world key (node_of cause) (epoch_now world t key.ue) (after_taking key cause (on_air s key)) in
      then_kept (after_step world key cause outputs units s)
      (first_of world cause t next reconnect_node world (node_of cause) next put_out_all world (node_of cause) (count_of cause) outputs) check_spans
      (then_has before (after_step world key cause outputs units s) (first_of world cause t next reconnect_node world (node_of cause))
      (put_out_all world (node_of cause) (count_of cause) outputs) (first_then cause t)
      (λ u at. is_as (after_puts key (count_of cause) outputs (on_air u key)) (after_step world key cause outputs units s)
      (put_out_all world (node_of cause) (count_of cause) outputs u) (ap (after_puts key (count_of cause) outputs) at)
      (all_put (node_of cause) (count_of cause) outputs u)))
      kept_checked

  pub acts_so : (cause : Cause M L P) (outputs : List (Put M L P)) (units : Units M C) (s t : State M C L P) (lines : List (RunLine M))
      → carried_out world (node_of cause) (count_of cause) (first_of world cause) outputs units s ≡ goes lines t
      → on_air t key ≡ after_step world key cause outputs units s
  acts_so cause outputs units s t lines is =
      subst (Has {X = RunLine M} (after_step world key cause outputs units s)) is (act_tracked cause outputs units s)

  pub puts_so : (node : NodeId) (taken : Option ℕ) (outputs : List (Put M L P)) (s t : State M C L P) (lines : List (RunLine M))
      → (put_out_all world node taken outputs s next check_spans) ≡ goes lines t → on_air t key ≡ after_puts key taken outputs (on_air s key)
  puts_so node taken outputs s t lines is =
      subst (Has {X = RunLine M} (after_puts key taken outputs (on_air s key))) is
      (then_kept (after_puts key taken outputs (on_air s key)) (put_out_all world node taken outputs s) check_spans (all_put node taken outputs s) kept_checked)
