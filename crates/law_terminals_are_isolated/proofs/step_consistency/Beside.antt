-- What a run keeps of a terminal beside its units is changed by the terminal's outputs alike in two states in which it is the same.
use Rattle.std.proofs.Common.{◌≡◌, ◌==◌, ℕ, ◌+◌, Bool, true, false, cond, List, [], ◌∷◌, ◌++◌, max, Option, Some, None, refl, sym, ap, ◌∙◌}
use Rattle.std.specs.Prelude.{if◌then◌else◌, unwrap_or}
use Rattle.std.specs.Option.{option_map}
use Rattle.std.specs.List.{AllByRecursion, flat_map}
use Rattle.std.specs.Ordering.{eq_by_cmp}
use Rattle.std.specs.Cmp.{Equal-is}
use Rattle.gnb_types.specs.declared.names.NodeId.{NodeId}
use Rattle.gnb_types.specs.declared.names.UeId.{UeId}
use Rattle.gnb_types.specs.declared.keys.TunnelEnd.{TunnelEnd}
use Rattle.gnb_types.specs.declared.keys.EntityKey.{EntityKey}
use Rattle.gnb_types.specs.declared.outputs.Tag.{Tag}
use Rattle.gnb_types.specs.declared.outputs.Tag.TheVariants.{Absent, Own, Same}
use Rattle.gnb_types.specs.Orders.{ue_cmp, entity_cmp, tunnel_cmp}
use Rattle.gnb_types.proofs.OrderLemmas.{entity_total, tunnel_total, tunnel_exact}
use Rattle.tables.specs.Tables.{find, put, without, at}
use Rattle.tables.proofs.TableLaws.{find-put, find-without, at-put}
use Rattle.unit_defs.specs.Ways.{Put, control, packet, radio, deliver, dropped, held, opened, closed, failed, no}
use Rattle.transport_defs.specs.declared.Item.{Item}
use Rattle.transport_defs.specs.declared.ControlMessage.{ControlMessage}
use Rattle.transport_defs.specs.Links.{Radio, items_of, put_control_message, is_epoch}
use Rattle.run_defs.specs.Lines.{put_item, lost_items, tunnel_link, radio_link, shown}
use Rattle.run_defs.specs.States.{State, Book, new_book, World, Stop, goes, stops, told_before, ◌next◌, goes_on, Within, entity, book_of, with_book, radio_of, with_radio}
use Rattle.run_defs.specs.Steps.{first_outstanding, entities_of, checked_by, check_spans, noted, count_beside, item_of, with_tunnel, on_tunnel, put_on_tunnel, put_on_connected, put_on_radio, put_control, opens, closes, put_out, put_out_all}
use Rattle.law_terminals_are_isolated.specs.projections.Steps.{IsFor}
use Rattle.law_terminals_are_isolated.specs.frame_of_steps.Others.{control_messages_of}
use Rattle.law_terminals_are_isolated.specs.step_consistency.EqualStates.{stand, EqualStates, EqualFrom}

-- ---- tables

-- the same is put at a key of two tables of which the same stands at another one
put_equal : {X : Type 0} (d : X) (m n : List (EntityKey × X)) (k q : EntityKey) (v w : X) → v ≡ w → at entity_cmp d m q ≡ at entity_cmp d n q
    → at entity_cmp d (put entity_cmp m k v) q ≡ at entity_cmp d (put entity_cmp n k w) q
put_equal d m n k q v w same there =
    at-put entity_total d m k v q ∙ (λ i. cond (eq_by_cmp entity_cmp q k) (same i) (there i)) ∙ sym (at-put entity_total d n k w q)

none_after : {X : Type 0} (xs : List X) → xs ++ [] ≡ xs
none_after [] = refl
none_after (x ∷ xs) = ap (λ (ys : List _). x ∷ ys) (none_after xs)

joined : {X : Type 0} (xs ys zs : List X) → xs ++ (ys ++ zs) ≡ (xs ++ ys) ++ zs
joined [] ys zs = refl
joined (w ∷ ws) ys zs = ap (λ (vs : List _). w ∷ vs) (joined ws ys zs)

pub control_messages_end : {M : Type 0} (ue : UeId) (es : List (ℕ × ControlMessage M)) (e : ℕ × ControlMessage M)
    → control_messages_of ue (es ++ e ∷ []) ≡ control_messages_of ue es ++ (if e.1.ue == ue.0 then e.1 ∷ [] else [])
control_messages_end ue [] e = none_after (if e.1.ue == ue.0 then e.1 ∷ [] else [])
control_messages_end ue (x ∷ es) e =
    ap (λ (ls : List (ControlMessage _)). (if x.1.ue == ue.0 then x.1 ∷ [] else []) ++ ls) (control_messages_end ue es e)
    ∙ joined (if x.1.ue == ue.0 then x.1 ∷ [] else []) (control_messages_of ue es) (if e.1.ue == ue.0 then e.1 ∷ [] else [])

-- ---- the items of a bearer and direction on a tunnel, where it is owned

items_end : {X : Type 0} (key : EntityKey) (items : List (Item X)) (item : Item X)
    → items_of key (items ++ item ∷ []) ≡ items_of key items ++ items_of key (item ∷ [])
items_end key [] item = refl
items_end key (x ∷ items) item = by (eq_by_cmp entity_cmp x.key key) (items_end key items item)
  where
    by : (b : Bool) → items_of key (items ++ item ∷ []) ≡ items_of key items ++ items_of key (item ∷ [])
        → cond b (x ∷ items_of key (items ++ item ∷ [])) (items_of key (items ++ item ∷ []))
        ≡ cond b (x ∷ items_of key items) (items_of key items) ++ items_of key (item ∷ [])
    by true e = ap (λ (xs : List (Item _)). x ∷ xs) e
    by false e = e

-- an item is added on an owned tunnel
abbrev added_to : {X : Type 0} → TunnelEnd → List (TunnelEnd × List (Item X)) → Item X → Option (List (Item X)) → List (TunnelEnd × List (Item X))
added_to end ts item None = ts
added_to end ts item (Some items) = put tunnel_cmp ts end (items ++ item ∷ [])

-- what stands at q after a put at this end, an opening and a closing, as a function of what stood there
same_end : (end q : TunnelEnd) → eq_by_cmp tunnel_cmp q end ≡ true → q ≡ end
same_end end q tie = tunnel_exact q end ((Equal-is (tunnel_cmp q end)).0 tie)

abbrev pub Items : Type 0 → Type 0
Items X = Option (List (Item X))

abbrev pub Ends : Type 0 → Type 0
Ends X = List (TunnelEnd × List (Item X))

module _ {X : Type 0} (end q : TunnelEnd) (key : EntityKey) where
  abbrev pub added : Item X → Items X → Items X
  added item o = cond (eq_by_cmp tunnel_cmp q end) (option_map (λ (xs : List (Item X)). xs ++ items_of key (item ∷ [])) o) o

  abbrev opened_then : Items X → Items X
  opened_then o = cond (eq_by_cmp tunnel_cmp q end) (Some (unwrap_or o [])) o

  abbrev closed_then : Items X → Items X
  closed_then o = cond (eq_by_cmp tunnel_cmp q end) None o

  abbrev pub with_these : List (Item X) → Items X → Items X
  with_these items o = cond (eq_by_cmp tunnel_cmp q end) (Some items) o

  pub stands_so : (ts : Ends X) (o : Items X) → find tunnel_cmp ts end ≡ o → eq_by_cmp tunnel_cmp q end ≡ true → stand ts q key ≡ option_map (items_of key) o
  stands_so ts o found tie = ap (λ (e : TunnelEnd). stand ts e key) (same_end end q tie) ∙ ap (option_map (items_of key)) found

  is_added : (ts : Ends X) (item : Item X) (o : Items X) → find tunnel_cmp ts end ≡ o → stand (added_to end ts item o) q key ≡ added item (stand ts q key)
  is_added ts item None found = by (eq_by_cmp tunnel_cmp q end) refl
    where
      by : (b : Bool) → eq_by_cmp tunnel_cmp q end ≡ b
          → stand ts q key ≡ cond b (option_map (λ (xs : List (Item X)). xs ++ items_of key (item ∷ [])) (stand ts q key)) (stand ts q key)
      by false tie = refl
      by true tie =
          stands_so ts None found tie ∙ sym (ap (option_map (λ (xs : List (Item X)). xs ++ items_of key (item ∷ []))) (stands_so ts None found tie))
  is_added ts item (Some items) found =
      ap (option_map (items_of key)) (find-put tunnel_total ts end (items ++ item ∷ []) q) ∙ by (eq_by_cmp tunnel_cmp q end) refl
    where
      by : (b : Bool) → eq_by_cmp tunnel_cmp q end ≡ b
          → option_map (items_of key) (cond b (Some (items ++ item ∷ [])) (find tunnel_cmp ts q))
          ≡ cond b (option_map (λ (xs : List (Item X)). xs ++ items_of key (item ∷ [])) (stand ts q key)) (stand ts q key)
      by false tie = refl
      by true tie =
          ap (λ (xs : List (Item X)). Some xs) (items_end key items item)
          ∙ sym (ap (option_map (λ (xs : List (Item X)). xs ++ items_of key (item ∷ []))) (stands_so ts (Some items) found tie))

  is_opened : (ts : Ends X) → stand (with_tunnel end ts) q key ≡ opened_then (stand ts q key)
  unfolding at
  is_opened ts =
      ap (option_map (items_of key)) (find-put tunnel_total ts end (at tunnel_cmp [] ts end) q) ∙ by (eq_by_cmp tunnel_cmp q end) refl
    where
      out : (o : Items X) → items_of key (unwrap_or o []) ≡ unwrap_or (option_map (items_of key) o) []
      out None = refl
      out (Some items) = refl

      by : (b : Bool) → eq_by_cmp tunnel_cmp q end ≡ b
          → option_map (items_of key) (cond b (Some (unwrap_or (find tunnel_cmp ts end) [])) (find tunnel_cmp ts q))
          ≡ cond b (Some (unwrap_or (stand ts q key) [])) (stand ts q key)
      by false tie = refl
      by true tie =
          ap (λ (xs : List (Item X)). Some xs) (out (find tunnel_cmp ts end))
          ∙ sym (ap (λ (o : Items X). Some (unwrap_or o [])) (stands_so ts (find tunnel_cmp ts end) refl tie))

  is_closed : (ts : Ends X) → stand (without tunnel_cmp ts end) q key ≡ closed_then (stand ts q key)
  is_closed ts = ap (option_map (items_of key)) (find-without tunnel_total ts end q) ∙ by (eq_by_cmp tunnel_cmp q end)
    where
      by : (b : Bool) → option_map (items_of key) (cond b None (find tunnel_cmp ts q)) ≡ cond b None (stand ts q key)
      by false = refl
      by true = refl

  pub is_put : (ts : Ends X) (items : List (Item X)) → stand (put tunnel_cmp ts end items) q key ≡ with_these (items_of key items) (stand ts q key)
  is_put ts items = ap (option_map (items_of key)) (find-put tunnel_total ts end items q) ∙ by (eq_by_cmp tunnel_cmp q end)
    where
      by : (b : Bool) → option_map (items_of key) (cond b (Some items) (find tunnel_cmp ts q)) ≡ cond b (Some (items_of key items)) (stand ts q key)
      by false = refl
      by true = refl

module _ {M C L P : Type 0} (world : World M C L P) (ue : UeId) (shows : TunnelEnd → Bool) where
  abbrev Like : State M C L P → State M C L P → Type 0
  Like s t = EqualStates ue shows s t

  abbrev From : Within M C L P → Within M C L P → Type 0
  From e d = EqualFrom ue shows e d

  abbrev pub Steps : Type 0
  Steps = State M C L P → Within M C L P

  abbrev pub KeepEqual : Steps → Steps → Type 0
  KeepEqual f g = (x y : State M C L P) → Like x y → From (f x) (g y)

  pub then_equal : (e d : Within M C L P) (f g : Steps) → From e d → KeepEqual f g → From (e next f) (d next g)
  then_equal (goes told x) (goes more y) f g h each = by (f x) (g y) (each x y h)
    where
      by : (a b : Within M C L P) → From a b → From (told_before told a) (told_before more b)
      by (goes l u) (goes m v) i = i
      by (goes l u) (stops m why) i = tt
      by (stops l why) (goes m v) i = tt
      by (stops l why) (stops m other) i = tt
  then_equal (goes told x) (stops more why) f g h each = by (f x)
    where
      by : (a : Within M C L P) → From (told_before told a) (stops more why)
      by (goes l u) = tt
      by (stops l other) = tt
  then_equal (stops told why) d f g h each = tt

  pub checks_equal : KeepEqual check_spans check_spans
  unfolding check_spans
  checks_equal x y h = by (first_outstanding x (flat_map entities_of x.plans)) (first_outstanding y (flat_map entities_of y.plans))
    where
      by : (o p : Option Stop) → From (checked_by x o) (checked_by y p)
      by None None = h
      by None (Some why) = tt
      by (Some why) p = tt

  -- ---- one thing changes

  pub books_equal : (key : EntityKey) (f : Book → Book) → key.ue ≡ ue → (x y : State M C L P) → Like x y
      → Like (with_book key (f (book_of x key)) x) (with_book key (f (book_of y key)) y)
  books_equal key f its x y h = record {
    control_messages = h.control_messages;
    tunnels = h.tunnels;
    radios = h.radios;
    books = λ q is. put_equal new_book x.books y.books key q _ _ (ap f (h.books key its)) (h.books q is);
    connected = h.connected;
    plan = h.plan;
    node = h.node;
  }

  pub radios_equal : (key : EntityKey) (v w : Radio P) → v ≡ w → (x y : State M C L P) → Like x y → Like (with_radio key v x) (with_radio key w y)
  radios_equal key v w same x y h = record {
    control_messages = h.control_messages;
    tunnels = h.tunnels;
    radios = λ q is. put_equal (record { items = []; carried = 0 }) x.radios y.radios key q v w same (h.radios q is);
    books = h.books;
    connected = h.connected;
    plan = h.plan;
    node = h.node;
  }

  pub tunnels_equal : (x y : State M C L P) (ts us : List (TunnelEnd × List (Item L))) → Like x y
      → ((q : TunnelEnd) → shows q ≡ true → (key : EntityKey) → key.ue ≡ ue → stand ts q key ≡ stand us q key)
      → Like (record x { tunnels = ts }) (record y { tunnels = us })
  tunnels_equal x y ts us h same = record {
    control_messages = h.control_messages;
    tunnels = same;
    radios = h.radios;
    books = h.books;
    connected = h.connected;
    plan = h.plan;
    node = h.node;
  }

  -- ---- what is put

  on_tunnel_equal : (end : TunnelEnd) (item : Item L) (x y : State M C L P) → Like x y → (o p : Option (List (Item L)))
      → find tunnel_cmp x.tunnels end ≡ o → find tunnel_cmp y.tunnels end ≡ p → From (on_tunnel world x end item o) (on_tunnel world y end item p)
  on_tunnel_equal end item x y h o p found also = by o p found also
    where
      same : (o p : Option (List (Item L))) → find tunnel_cmp x.tunnels end ≡ o → find tunnel_cmp y.tunnels end ≡ p
          → Like (record x { tunnels = added_to end x.tunnels item o }) (record y { tunnels = added_to end y.tunnels item p })
      same o p found also = tunnels_equal x y _ _ h
          (λ q owned key is. is_added end q key x.tunnels item o found ∙ ap (added end q key item) (h.tunnels q owned key is) ∙ sym (is_added end q key y.tunnels item p also))

      by : (o p : Option (List (Item L))) → find tunnel_cmp x.tunnels end ≡ o → find tunnel_cmp y.tunnels end ≡ p
          → From (on_tunnel world x end item o) (on_tunnel world y end item p)
      by None None found also = same None None found also
      by None (Some ys) found also = same None (Some ys) found also
      by (Some xs) None found also = same (Some xs) None found also
      by (Some xs) (Some ys) found also = same (Some xs) (Some ys) found also

  pub put_on_tunnel_equal : (end : TunnelEnd) (item : Item L) → KeepEqual (put_on_tunnel world end item) (put_on_tunnel world end item)
  unfolding put_on_tunnel
  put_on_tunnel_equal end item x y h =
      then_equal (goes (put_item (tunnel_link end) (shown item.key item.count (world.show_item item.content)) ∷ []) x)
      (goes (put_item (tunnel_link end) (shown item.key item.count (world.show_item item.content)) ∷ []) y)
      (λ z. on_tunnel world z end item (find tunnel_cmp z.tunnels end)) (λ z. on_tunnel world z end item (find tunnel_cmp z.tunnels end)) h
      (λ z w i. on_tunnel_equal end item z w i (find tunnel_cmp z.tunnels end) (find tunnel_cmp w.tunnels end) refl refl)

  connected_equal : (key : EntityKey) (epoch : ℕ) (item : Item P) → key.ue ≡ ue → KeepEqual (put_on_connected world key epoch item) (put_on_connected world key epoch item)
  connected_equal key epoch item its x y h = by (is_epoch (find ue_cmp x.connected key.ue) epoch) (is_epoch (find ue_cmp y.connected key.ue) epoch) together
    where
      together : is_epoch (find ue_cmp x.connected key.ue) epoch ≡ is_epoch (find ue_cmp y.connected key.ue) epoch
      together =
          ap (λ (u : UeId). is_epoch (find ue_cmp x.connected u) epoch) its
          ∙ ap (λ (o : Option ℕ). is_epoch o epoch) h.connected
          ∙ sym (ap (λ (u : UeId). is_epoch (find ue_cmp y.connected u) epoch) its)

      by : (a b : Bool) → a ≡ b → From
          (if a then goes_on (with_radio key (record (radio_of x key) { items = (radio_of x key).items ++ item ∷ [] }) x)
          else goes (lost_items (radio_link key epoch) 1 ∷ []) x)
          (if b then goes_on (with_radio key (record (radio_of y key) { items = (radio_of y key).items ++ item ∷ [] }) y)
          else goes (lost_items (radio_link key epoch) 1 ∷ []) y)
      by true true e = radios_equal key _ _ (ap (λ (r : Radio P). record r { items = r.items ++ item ∷ [] }) (h.radios key its)) x y h
      by false false e = h
      by true false e = absurd cc
      by false true e = absurd cc

  put_on_radio_equal : (epoch : ℕ) (item : Item P) → item.key.ue ≡ ue → KeepEqual (put_on_radio world epoch item) (put_on_radio world epoch item)
  unfolding put_on_radio
  put_on_radio_equal epoch item its x y h =
      then_equal (goes (put_item (radio_link item.key epoch) (shown item.key item.count (world.show_pdu item.content)) ∷ []) x)
      (goes (put_item (radio_link item.key epoch) (shown item.key item.count (world.show_pdu item.content)) ∷ []) y)
      (put_on_connected world item.key epoch item) (put_on_connected world item.key epoch item) h (connected_equal item.key epoch item its)

  noted_equal : (key : EntityKey) (tag : Tag) → key.ue ≡ ue → (x y : State M C L P) → Like x y → Like (noted key tag x) (noted key tag y)
  noted_equal key Absent its x y h = h
  noted_equal key (Own count) its x y h = books_equal key (λ (b : Book). record b { numbered = max b.numbered (count + 1) }) its x y h
  noted_equal key Same its x y h = h

  its_ue : (who : UeId) → who.0 ≡ ue.0 → who ≡ ue
  its_ue who e = ap (λ (n : ℕ). record { 0 = n }) e

  control_message_equal : (l : ControlMessage M) → KeepEqual (put_control world l) (put_control world l)
  unfolding put_control put_control_message
  control_message_equal l x y h = record {
    control_messages =
        control_messages_end ue x.bag.control_messages _
        ∙ ap (λ (ls : List (ControlMessage M)). ls ++ (if l.ue == ue.0 then l ∷ [] else [])) h.control_messages
        ∙ sym (control_messages_end ue y.bag.control_messages _);
    tunnels = h.tunnels;
    radios = h.radios;
    books = h.books;
    connected = h.connected;
    plan = h.plan;
    node = h.node;
  }

  put_equal_out : (node : NodeId) (taken : Option ℕ) (output : Put M L P) → IsFor ue.0 output → KeepEqual (put_out world node taken output) (put_out world node taken output)
  unfolding opens closes
  put_equal_out node taken (control to who message) is x y h = control_message_equal (record { from = node; to = to; ue = who; message = message }) x y h
  put_equal_out node taken (packet to teid who bearer dir tag load) is x y h =
      put_on_tunnel_equal (record { node = to; teid = teid }) (item_of world who bearer dir (count_beside tag taken) load)
      (noted (entity who bearer dir) tag x) (noted (entity who bearer dir) tag y) (noted_equal (entity who bearer dir) tag (its_ue who is) x y h)
  put_equal_out node taken (radio who bearer dir epoch tag pdu) is x y h =
      put_on_radio_equal epoch (item_of world who bearer dir (count_beside tag taken) pdu) (its_ue who is)
      (noted (entity who bearer dir) tag x) (noted (entity who bearer dir) tag y) (noted_equal (entity who bearer dir) tag (its_ue who is) x y h)
  put_equal_out node taken (deliver who bearer dir count p) is x y h =
      books_equal (entity who bearer dir) (λ (b : Book). record b { delivered = b.delivered + 1 }) (its_ue who is) x y h
  put_equal_out node taken (dropped reason) is x y h = h
  put_equal_out node taken (opened teid) is x y h =
      let end : TunnelEnd = record { node = node; teid = teid } in
      tunnels_equal x y (with_tunnel end x.tunnels) (with_tunnel end y.tunnels) h
      (λ q owned key its. is_opened end q key x.tunnels ∙ ap (opened_then end q key) (h.tunnels q owned key its) ∙ sym (is_opened end q key y.tunnels))
  put_equal_out node taken (closed teid) is x y h =
      let end : TunnelEnd = record { node = node; teid = teid } in
      tunnels_equal x y (without tunnel_cmp x.tunnels end) (without tunnel_cmp y.tunnels end) h
      (λ q owned key its. is_closed end q key x.tunnels ∙ ap (closed_then end q key) (h.tunnels q owned key its) ∙ sym (is_closed end q key y.tunnels))
  put_equal_out node taken (failed who cause) is x y h = h
  put_equal_out node taken (held reason) is x y h = h
  put_equal_out node taken (no reason) is x y h = h

  pub all_equal : (node : NodeId) (taken : Option ℕ) (outputs : List (Put M L P)) → AllByRecursion (IsFor ue.0) outputs
      → KeepEqual (put_out_all world node taken outputs) (put_out_all world node taken outputs)
  unfolding put_out_all
  all_equal node taken [] all x y h = h
  all_equal node taken (output ∷ outputs) all x y h =
      then_equal (put_out world node taken output x) (put_out world node taken output y) (put_out_all world node taken outputs) (put_out_all world node taken outputs)
      (put_equal_out node taken output all.0 x y h) (all_equal node taken outputs all.1)
