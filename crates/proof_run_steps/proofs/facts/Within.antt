-- What is done within a step keeps the facts: items that are put, lost and taken, control messages, tunnels that open and close, radios.
use Rattle.std.proofs.Common.{◌≡◌, ◌≤◌, ℕ, ◌+◌, Bool, true, false, cond, List, [], ◌∷◌, ◌++◌, length, Option, Some, None, refl, sym, ◌∙◌, subst, length-append, arith}
use Rattle.std.specs.Prelude.{if◌then◌else◌, unwrap_or}
use Rattle.std.specs.List.{AllByRecursion, flat_map}
use Rattle.std.specs.Ordering.{eq_by_cmp}
use Rattle.std.specs.Cmp.{Equal-is}
use Rattle.gnb_types.specs.declared.names.NodeId.{NodeId}
use Rattle.gnb_types.specs.declared.names.NodeId.TheVariants.{CuCp, CuUp, Du, Core, Ue}
use Rattle.gnb_types.specs.declared.names.UeId.{UeId}
use Rattle.gnb_types.specs.declared.keys.EntityKey.{EntityKey}
use Rattle.gnb_types.specs.declared.keys.TunnelEnd.{TunnelEnd}
use Rattle.gnb_types.specs.declared.outputs.Tag.{Tag}
use Rattle.gnb_types.specs.declared.outputs.Tag.TheVariants.{Absent, Own, Same}
use Rattle.gnb_types.specs.Orders.{ue_cmp, entity_cmp, tunnel_cmp}
use Rattle.gnb_types.proofs.OrderLemmas.{entity_total, entity_exact, tunnel_total, tunnel_exact}
use Rattle.tables.specs.Tables.{find, put, without, at}
use Rattle.tables.proofs.TableLaws.{find-put, find-without, at-put, at-without}
use Rattle.unit_defs.specs.Ways.{Put, control, packet, radio, deliver, dropped, held, opened, closed, failed, no}
use Rattle.transport_defs.specs.declared.Item.{Item}
use Rattle.transport_defs.specs.declared.ControlMessage.{ControlMessage}
use Rattle.transport_defs.specs.Links.{Bag, Radio, is_epoch, emptied, most_control_messages, put_control_message}
use Rattle.run_defs.specs.Lines.{RunLine, put_item, lost_items, tunnel_link, radio_link, shown}
use Rattle.run_defs.specs.States.{State, World, Stop, goes, stops, told_before, ◌next◌, goes_on, Ending, Within, entity, radio_of, with_radio}
use Rattle.run_defs.specs.Steps.{first_outstanding, entities_of, checked_by, check_spans, noted, count_beside, item_of, control_message_of, with_tunnel, on_tunnel, put_on_tunnel, put_on_connected, put_on_radio, put_control, opens, closes, radio_lost, lose_each, lose_radios_of, lose_radios, radios_of, same_epoch, epoch_now, connect_in, reconnect, reconnect_node, delivered, put_out, put_out_all, count_control_messages}
use Rattle.proof_run_steps.specs.facts.Facts.{Facts, HoldWith, PutFits, PutsFit}

pub all_and : {X : Type 0} (Q : X → Type 0) (xs : List X) (x : X) → AllByRecursion Q xs → Q x → AllByRecursion Q (xs ++ x ∷ [])
all_and Q [] x all q = (q, tt)
all_and Q (y ∷ ys) x all q = (all.0, all_and Q ys x all.1 q)

pub all_both : {X : Type 0} (Q : X → Type 0) (xs ys : List X) → AllByRecursion Q xs → AllByRecursion Q ys → AllByRecursion Q (xs ++ ys)
all_both Q [] ys p q = q
all_both Q (x ∷ xs) ys p q = (p.0, all_both Q xs ys p.1 q)

module _ {M C L P : Type 0} (world : World M C L P) (facts : Facts M C L P) where
  -- they hold where it goes on
  abbrev pub HoldsWith : {X : Type 0} → ℕ → Ending X (State M C L P) → Type 0
  HoldsWith more (goes told t) = HoldWith facts more t
  HoldsWith more (stops told why) = Unit {0}

  -- what puts no control message keeps them
  abbrev pub KeepsFacts : (State M C L P → Within M C L P) → Type 0
  KeepsFacts f = (more : ℕ) (t : State M C L P) → HoldWith facts more t → HoldsWith more (f t)

  pub then_holds : (n m : ℕ) (e : Within M C L P) (f : State M C L P → Within M C L P) → HoldsWith n e
      → ((t : State M C L P) → HoldWith facts n t → HoldsWith m (f t)) → HoldsWith m (e next f)
  then_holds n m (goes told t) f p q = by (f t) (q t p)
    where
      by : (e : Within M C L P) → HoldsWith m e → HoldsWith m (told_before told e)
      by (goes more s) h = h
      by (stops more why) h = tt
  then_holds n m (stops told why) f p q = tt

  pub keep_checked : KeepsFacts check_spans
  unfolding check_spans
  keep_checked more s h = by (first_outstanding s (flat_map entities_of s.plans))
    where
      by : (o : Option Stop) → HoldsWith more (checked_by s o)
      by None = h
      by (Some why) = tt

  -- ---- tunnels

  OnAll : List (TunnelEnd × List (Item L)) → Type 0
  OnAll tunnels = (end : TunnelEnd) (items : List (Item L)) → find tunnel_cmp tunnels end ≡ Some items → AllByRecursion (facts.on_tunnel end) items

  on_put : (tunnels : List (TunnelEnd × List (Item L))) (end : TunnelEnd) (items : List (Item L)) → OnAll tunnels
      → AllByRecursion (facts.on_tunnel end) items → OnAll (put tunnel_cmp tunnels end items)
  unfolding OnAll
  on_put tunnels end items all is q found h =
      by (eq_by_cmp tunnel_cmp q end) refl (sym (find-put tunnel_total tunnels end items q) ∙ h)
    where
      by : (t : Bool) → eq_by_cmp tunnel_cmp q end ≡ t → cond t (Some items) (find tunnel_cmp tunnels q) ≡ Some found
          → AllByRecursion (facts.on_tunnel q) found
      by true tie e =
          let same : q ≡ end = tunnel_exact q end ((Equal-is (tunnel_cmp q end)).0 tie) in
          let those : items ≡ found = cc in
          subst (λ (x : TunnelEnd). AllByRecursion (facts.on_tunnel x) found) (sym same)
          (subst (λ (xs : List (Item L)). AllByRecursion (facts.on_tunnel end) xs) those is)
      by false apart e = all q found e

  on_without : (tunnels : List (TunnelEnd × List (Item L))) (end : TunnelEnd) → OnAll tunnels → OnAll (without tunnel_cmp tunnels end)
  unfolding OnAll
  on_without tunnels end all q found h = by (eq_by_cmp tunnel_cmp q end) (sym (find-without tunnel_total tunnels end q) ∙ h)
    where
      by : (t : Bool) → cond t None (find tunnel_cmp tunnels q) ≡ Some found → AllByRecursion (facts.on_tunnel q) found
      by true e = absurd cc
      by false e = all q found e

  on_at : (tunnels : List (TunnelEnd × List (Item L))) (end : TunnelEnd) → OnAll tunnels
      → AllByRecursion (facts.on_tunnel end) (at tunnel_cmp [] tunnels end)
  unfolding OnAll at
  on_at tunnels end all = by (find tunnel_cmp tunnels end) refl
    where
      by : (o : Option (List (Item L))) → find tunnel_cmp tunnels end ≡ o → AllByRecursion (facts.on_tunnel end) (unwrap_or o [])
      by None e = tt
      by (Some items) e = all end items e

  pub with_tunnels : (more : ℕ) (s : State M C L P) (end : TunnelEnd) (items : List (Item L)) → HoldWith facts more s
      → AllByRecursion (facts.on_tunnel end) items → HoldWith facts more (record s { tunnels = put tunnel_cmp s.tunnels end items })
  unfolding OnAll
  with_tunnels more s end items h is = record {
    units = h.units;
    core = h.core;
    control_messages = h.control_messages;
    tunnels = on_put s.tunnels end items h.tunnels is;
    radios = h.radios;
    few = h.few;
  }

  pub with_open : (more : ℕ) (s : State M C L P) (end : TunnelEnd) → HoldWith facts more s
      → HoldWith facts more (record s { tunnels = with_tunnel end s.tunnels })
  unfolding OnAll
  with_open more s end h = with_tunnels more s end (at tunnel_cmp [] s.tunnels end) h (on_at s.tunnels end h.tunnels)

  without_tunnel : (more : ℕ) (s : State M C L P) (end : TunnelEnd) → HoldWith facts more s
      → HoldWith facts more (record s { tunnels = without tunnel_cmp s.tunnels end })
  unfolding OnAll
  without_tunnel more s end h = record {
    units = h.units;
    core = h.core;
    control_messages = h.control_messages;
    tunnels = on_without s.tunnels end h.tunnels;
    radios = h.radios;
    few = h.few;
  }

  keep_on_tunnel : (end : TunnelEnd) (item : Item L) (more : ℕ) (s : State M C L P) (o : Option (List (Item L))) → find tunnel_cmp s.tunnels end ≡ o
      → HoldWith facts more s → facts.on_tunnel end item → HoldsWith more (on_tunnel world s end item o)
  keep_on_tunnel end item more s None found h is = h
  keep_on_tunnel end item more s (Some items) found h is =
      with_tunnels more s end (items ++ item ∷ []) h (all_and (facts.on_tunnel end) items item (h.tunnels end items found) is)

  pub keep_put_on_tunnel : (end : TunnelEnd) (item : Item L) → facts.on_tunnel end item → KeepsFacts (put_on_tunnel world end item)
  unfolding put_on_tunnel
  keep_put_on_tunnel end item is more s h =
      then_holds more more (goes (put_item (tunnel_link end) (shown item.key item.count (world.show_item item.content)) ∷ []) s)
      (λ t. on_tunnel world t end item (find tunnel_cmp t.tunnels end)) h
      (λ t k. keep_on_tunnel end item more t (find tunnel_cmp t.tunnels end) refl k is)

  -- ---- radios

  radio_put : (radios : List (EntityKey × Radio P)) (key : EntityKey) (r : Radio P)
      → ((q : EntityKey) → AllByRecursion (facts.on_radio q) (at entity_cmp (record { items = []; carried = 0 }) radios q).items)
      → AllByRecursion (facts.on_radio key) r.items
      → (q : EntityKey) → AllByRecursion (facts.on_radio q) (at entity_cmp (record { items = []; carried = 0 }) (put entity_cmp radios key r) q).items
  radio_put radios key r all is q =
      subst (λ (x : Radio P). AllByRecursion (facts.on_radio q) x.items) (sym (at-put entity_total (record { items = []; carried = 0 }) radios key r q))
      (by (eq_by_cmp entity_cmp q key) refl)
    where
      by : (t : Bool) → eq_by_cmp entity_cmp q key ≡ t
          → AllByRecursion (facts.on_radio q) (cond t r (at entity_cmp (record { items = []; carried = 0 }) radios q)).items
      by true tie =
          let same : q ≡ key = entity_exact q key ((Equal-is (entity_cmp q key)).0 tie) in
          subst (λ (x : EntityKey). AllByRecursion (facts.on_radio x) r.items) (sym same) is
      by false apart = all q

  radio_without : (radios : List (EntityKey × Radio P)) (key : EntityKey)
      → ((q : EntityKey) → AllByRecursion (facts.on_radio q) (at entity_cmp (record { items = []; carried = 0 }) radios q).items)
      → (q : EntityKey) → AllByRecursion (facts.on_radio q) (at entity_cmp (record { items = []; carried = 0 }) (without entity_cmp radios key) q).items
  radio_without radios key all q =
      subst (λ (x : Radio P). AllByRecursion (facts.on_radio q) x.items) (sym (at-without entity_total (record { items = []; carried = 0 }) radios key q))
      (by (eq_by_cmp entity_cmp q key))
    where
      by : (t : Bool)
          → AllByRecursion (facts.on_radio q) (cond t (record { items = []; carried = 0 }) (at entity_cmp (record { items = []; carried = 0 }) radios q)).items
      by true = tt
      by false = all q

  pub with_radios : (more : ℕ) (s : State M C L P) (key : EntityKey) (r : Radio P) → HoldWith facts more s
      → AllByRecursion (facts.on_radio key) r.items → HoldWith facts more (with_radio key r s)
  with_radios more s key r h is = record {
    units = h.units;
    core = h.core;
    control_messages = h.control_messages;
    tunnels = h.tunnels;
    radios = radio_put s.radios key r h.radios is;
    few = h.few;
  }

  without_radio : (more : ℕ) (s : State M C L P) (key : EntityKey) → HoldWith facts more s
      → HoldWith facts more (record s { radios = emptied s.radios key })
  without_radio more s key h = record {
    units = h.units;
    core = h.core;
    control_messages = h.control_messages;
    tunnels = h.tunnels;
    radios = radio_without s.radios key h.radios;
    few = h.few;
  }

  keep_connected : (epoch : ℕ) (item : Item P) → facts.on_radio item.key item → KeepsFacts (put_on_connected world item.key epoch item)
  keep_connected epoch item is more s h = by (is_epoch (find ue_cmp s.connected item.key.ue) epoch)
    where
      by : (t : Bool) → HoldsWith {X = RunLine M} more (if t
          then goes_on (with_radio item.key (record (radio_of s item.key) { items = (radio_of s item.key).items ++ item ∷ [] }) s)
          else goes (lost_items (radio_link item.key epoch) 1 ∷ []) s)
      by true =
          with_radios more s item.key (record (radio_of s item.key) { items = (radio_of s item.key).items ++ item ∷ [] }) h
          (all_and (facts.on_radio item.key) (radio_of s item.key).items item (h.radios item.key) is)
      by false = h

  keep_put_on_radio : (epoch : ℕ) (item : Item P) → facts.on_radio item.key item → KeepsFacts (put_on_radio world epoch item)
  unfolding put_on_radio
  keep_put_on_radio epoch item is more s h =
      then_holds more more (goes (put_item (radio_link item.key epoch) (shown item.key item.count (world.show_pdu item.content)) ∷ []) s)
      (put_on_connected world item.key epoch item) h (λ t k. keep_connected epoch item is more t k)

  keep_lose_each : (epoch : ℕ) (keys : List EntityKey) → KeepsFacts (lose_each world epoch keys)
  keep_lose_each epoch [] more s h = h
  keep_lose_each epoch (key ∷ keys) more s h =
      then_holds more more (goes (radio_lost world epoch key (radio_of s key).items) (record s { radios = emptied s.radios key }))
      (lose_each world epoch keys) (without_radio more s key h) (λ t k. keep_lose_each epoch keys more t k)

  keep_lose_of : (ue : UeId) (o : Option ℕ) → KeepsFacts (lose_radios_of world ue o)
  keep_lose_of ue None more s h = h
  keep_lose_of ue (Some epoch) more s h = keep_lose_each epoch (radios_of world ue s.radios) more s h

  pub keep_lose : (ue : UeId) → KeepsFacts (lose_radios world ue)
  unfolding lose_radios
  keep_lose ue more s h = keep_lose_of ue (find ue_cmp s.connected ue) more s h

  -- facts say nothing of plans, of what is connected, and of books
  pub same_links : (more : ℕ) (s t : State M C L P) → HoldWith facts more s → t.units ≡ s.units → t.core ≡ s.core → t.bag ≡ s.bag
      → t.tunnels ≡ s.tunnels → t.radios ≡ s.radios → HoldWith facts more t
  same_links more s t h units core bag tunnels radios = record {
    units = subst facts.units (sym units) h.units;
    core = subst facts.core (sym core) h.core;
    control_messages = subst (λ (b : Bag M). AllByRecursion (λ (e : ℕ × ControlMessage M). facts.control_message e.1) b.control_messages) (sym bag) h.control_messages;
    tunnels =
        subst (λ (ts : List (TunnelEnd × List (Item L))). (end : TunnelEnd) (items : List (Item L)) → find tunnel_cmp ts end ≡ Some items → AllByRecursion (facts.on_tunnel end) items) (sym tunnels) h.tunnels;
    radios =
        subst (λ (rs : List (EntityKey × Radio P)). (key : EntityKey) → AllByRecursion (facts.on_radio key) (at entity_cmp (record { items = []; carried = 0 }) rs key).items) (sym radios) h.radios;
    few = subst (λ (b : Bag M). facts.counted → length b.control_messages + more ≤ most_control_messages) (sym bag) h.few;
  }

  keep_reconnect : (ue : UeId) → KeepsFacts (reconnect world ue)
  keep_reconnect ue more s h = by (same_epoch world (find ue_cmp s.connected ue) (epoch_now world s ue))
    where
      by : (t : Bool) → HoldsWith more (if t then goes_on s
          else (lose_radios world ue s next (λ t. goes_on (connect_in world ue (epoch_now world s ue) t))))
      by true = h
      by false =
          then_holds more more (lose_radios world ue s) (λ t. goes_on (connect_in world ue (epoch_now world s ue) t)) (keep_lose ue more s h)
          (λ t k. same_links more t (connect_in world ue (epoch_now world s ue) t) k refl refl refl refl refl)

  pub keep_reconnect_node : (node : NodeId) → KeepsFacts (reconnect_node world node)
  keep_reconnect_node (Ue ue) more s h = keep_reconnect (record { 0 = ue }) more s h
  keep_reconnect_node (CuCp gnb) more s h = h
  keep_reconnect_node (CuUp gnb number) more s h = h
  keep_reconnect_node (Du gnb number) more s h = h
  keep_reconnect_node Core more s h = h

  -- ---- one output, and all of a step

  keep_noted : (key : EntityKey) (tag : Tag) (more : ℕ) (s : State M C L P) → HoldWith facts more s → HoldWith facts more (noted key tag s)
  keep_noted key Absent more s h = h
  keep_noted key (Own count) more s h = same_links more s (noted key (Own count) s) h refl refl refl refl refl
  keep_noted key Same more s h = h

  keep_control : (l : ControlMessage M) (more : ℕ) (s : State M C L P) → HoldWith facts (more + 1) s → facts.control_message l → HoldsWith more (put_control world l s)
  unfolding put_control put_control_message
  keep_control l more s h is = record {
    units = h.units;
    core = h.core;
    control_messages = all_and (λ (e : ℕ × ControlMessage M). facts.control_message e.1) s.bag.control_messages (length s.bag.control_messages + 1, l) h.control_messages is;
    tunnels = h.tunnels;
    radios = h.radios;
    few = λ c. omega (arith, h.few c, length-append s.bag.control_messages ((length s.bag.control_messages + 1, l) ∷ []));
  }

  -- before an output so many control messages are still to be put
  keep_put : (node : NodeId) (taken : Option ℕ) (output : Put M L P) (rest : List (Put M L P)) → PutFits facts node taken output → (s : State M C L P)
      → HoldWith facts (count_control_messages world (output ∷ rest)) s → HoldsWith (count_control_messages world rest) (put_out world node taken output s)
  unfolding opens closes
  keep_put node taken (control to ue message) rest is s h = keep_control (control_message_of world node to ue message) (count_control_messages world rest) s h is
  keep_put node taken (packet to teid ue bearer dir tag load) rest is s h =
      let end : TunnelEnd = record { node = to; teid = teid } in
      let item : Item L = item_of world ue bearer dir (count_beside tag taken) load in
      keep_put_on_tunnel end item (facts.stands node end item is) (count_control_messages world rest) (noted (entity ue bearer dir) tag s)
      (keep_noted (entity ue bearer dir) tag (count_control_messages world rest) s h)
  keep_put node taken (radio ue bearer dir epoch tag pdu) rest is s h =
      let item : Item P = item_of world ue bearer dir (count_beside tag taken) pdu in
      keep_put_on_radio epoch item (facts.stands_on_air node (entity ue bearer dir) item is) (count_control_messages world rest) (noted (entity ue bearer dir) tag s)
      (keep_noted (entity ue bearer dir) tag (count_control_messages world rest) s h)
  keep_put node taken (deliver ue bearer dir count p) rest is s h =
      same_links (count_control_messages world rest) s (delivered world (entity ue bearer dir) s) h refl refl refl refl refl
  keep_put node taken (dropped reason) rest is s h = h
  keep_put node taken (opened teid) rest is s h = with_open (count_control_messages world rest) s (record { node = node; teid = teid }) h
  keep_put node taken (closed teid) rest is s h = without_tunnel (count_control_messages world rest) s (record { node = node; teid = teid }) h
  keep_put node taken (failed ue cause) rest is s h = h
  keep_put node taken (held reason) rest is s h = h
  keep_put node taken (no reason) rest is s h = h

  pub keep_put_all : (node : NodeId) (taken : Option ℕ) (outputs : List (Put M L P)) → PutsFit facts node taken outputs → (s : State M C L P)
      → HoldWith facts (count_control_messages world outputs) s → HoldsWith 0 (put_out_all world node taken outputs s)
  unfolding put_out_all
  keep_put_all node taken [] all s h = h
  keep_put_all node taken (output ∷ outputs) all s h =
      then_holds (count_control_messages world outputs) 0 (put_out world node taken output s) (put_out_all world node taken outputs)
      (keep_put node taken output outputs all.0 s h) (λ t k. keep_put_all node taken outputs all.1 t k)
