-- A step that is one terminal's leaves what a run keeps of the others beside its units and tunnels.
use Rattle.std.proofs.Common.{◌≡◌, ◌==◌, ℕ, ◌+◌, ◌-◌, Bool, true, false, cond, List, [], ◌∷◌, ◌++◌, max, Option, Some, None, refl, sym, ap, ◌∙◌, subst, eqb-true}
use Rattle.std.specs.Prelude.{◌≢◌, if◌then◌else◌, unwrap_or}
use Rattle.std.specs.List.{AllByRecursion, flat_map}
use Rattle.std.specs.Ordering.{eq_by_cmp}
use Rattle.std.specs.Cmp.{Equal-is}
use Rattle.gnb_types.specs.declared.names.NodeId.{NodeId}
use Rattle.gnb_types.specs.declared.names.NodeId.TheVariants.{CuCp, CuUp, Du, Core, Ue}
use Rattle.gnb_types.specs.declared.names.UeId.{UeId}
use Rattle.gnb_types.specs.declared.names.Dir.TheVariants.{Ul}
use Rattle.gnb_types.specs.declared.keys.EntityKey.{EntityKey}
use Rattle.gnb_types.specs.declared.keys.TunnelEnd.{TunnelEnd}
use Rattle.gnb_types.specs.declared.outputs.Tag.{Tag}
use Rattle.gnb_types.specs.declared.outputs.Tag.TheVariants.{Absent, Own, Same}
use Rattle.gnb_types.specs.Orders.{ue_cmp, entity_cmp, tunnel_cmp}
use Rattle.gnb_types.proofs.OrderLemmas.{entity_total, entity_exact, ue_total, tunnel_total, tunnel_exact}
use Rattle.tables.specs.Tables.{find, put, without, at}
use Rattle.tables.proofs.TableLaws.{find-put-other, find-without-other, at-put, at-without, other_key}
use Rattle.unit_defs.specs.Ways.{Put, control, packet, radio, deliver, dropped, held, opened, closed, failed, no}
use Rattle.transport_defs.specs.declared.Item.{Item}
use Rattle.transport_defs.specs.declared.ControlMessage.{ControlMessage}
use Rattle.transport_defs.specs.Links.{Radio, items_of, put_control_message, landed, is_epoch, emptied, connect}
use Rattle.run_defs.specs.Lines.{RunLine, put_item, lost_items, tunnel_link, radio_link, shown}
use Rattle.run_defs.specs.Units.{Units}
use Rattle.run_defs.specs.States.{State, Book, new_book, World, Stop, goes, stops, told_before, ◌next◌, goes_on, Within, entity, book_of, with_book, radio_of, with_radio}
use Rattle.run_defs.specs.Steps.{first_outstanding, entities_of, checked_by, check_spans, noted, count_beside, item_of, on_tunnel, put_on_tunnel, put_on_connected, put_on_radio, put_control, opens, closes, radio_lost, lose_each, lose_radios_of, lose_radios, radios_of, same_epoch, epoch_now, connect_in, reconnect, reconnect_node, put_out, put_out_all, carried_out}
use Rattle.proof_run_steps.specs.steps.Causes.{Cause, by_order, by_tick, by_octets, by_octets_on, by_attach, by_release, by_offer, by_item, by_air, by_ack, by_control_message, node_of, count_of, first_of}
use Rattle.law_terminals_are_isolated.proofs.projections.Tables.{apart_ues}
use Rattle.law_terminals_are_isolated.specs.frame_of_steps.Others.{control_messages_of, items_on, OthersStay, IsNodeFor, IsCauseFor, IsStepFor, IsOutputFor}

-- ---- tables of which another key changes

apart_keys : (a b : EntityKey) → a.ue ≢ b.ue → eq_by_cmp entity_cmp a b ≡ false
apart_keys a b apart =
    other_key (record { total = entity_total; exact = entity_exact }) a b (λ e. apart (ap (λ (k : EntityKey). k.ue) e))

put_apart : {X : Type 0} (d : X) (m : List (EntityKey × X)) (k : EntityKey) (v : X) (q : EntityKey) → q.ue ≢ k.ue
    → at entity_cmp d (put entity_cmp m k v) q ≡ at entity_cmp d m q
put_apart d m k v q apart = at-put entity_total d m k v q ∙ ap (λ (b : Bool). cond b v (at entity_cmp d m q)) (apart_keys q k apart)

without_apart : {X : Type 0} (d : X) (m : List (EntityKey × X)) (k q : EntityKey) → q.ue ≢ k.ue
    → at entity_cmp d (without entity_cmp m k) q ≡ at entity_cmp d m q
without_apart d m k q apart = at-without entity_total d m k q ∙ ap (λ (b : Bool). cond b d (at entity_cmp d m q)) (apart_keys q k apart)

-- ---- items of other terminals on tunnels

item_end : {X : Type 0} (key : EntityKey) (items : List (Item X)) (item : Item X) → item.key.ue ≢ key.ue → items_of key (items ++ item ∷ []) ≡ items_of key items
item_end key [] item apart = ap (λ (b : Bool). cond b (item ∷ []) []) (apart_keys item.key key apart)
item_end key (x ∷ items) item apart =
    ap (λ (xs : List (Item _)). cond (eq_by_cmp entity_cmp x.key key) (x ∷ xs) xs) (item_end key items item apart)

item_first : {X : Type 0} (key : EntityKey) (item : Item X) (items : List (Item X)) → item.key.ue ≢ key.ue → items_of key (item ∷ items) ≡ items_of key items
item_first key item items apart = ap (λ (b : Bool). cond b (item ∷ items_of key items) (items_of key items)) (apart_keys item.key key apart)

-- a tunnel of which the items of this key stay
at_end : {X : Type 0} (key : EntityKey) (ts : List (TunnelEnd × List (Item X))) (end q : TunnelEnd) (items : List (Item X))
    → items_of key items ≡ items_of key (at tunnel_cmp [] ts end) → items_of key (at tunnel_cmp [] (put tunnel_cmp ts end items) q) ≡ items_of key (at tunnel_cmp [] ts q)
at_end key ts end q items same =
    ap (items_of key) (at-put tunnel_total [] ts end items q) ∙ by (eq_by_cmp tunnel_cmp q end) refl
  where
    by : (b : Bool) → eq_by_cmp tunnel_cmp q end ≡ b → items_of key (cond b items (at tunnel_cmp [] ts q)) ≡ items_of key (at tunnel_cmp [] ts q)
    by false tie = refl
    by true tie =
        let here : q ≡ end = tunnel_exact q end ((Equal-is (tunnel_cmp q end)).0 tie) in
        same ∙ ap (λ (e : TunnelEnd). items_of key (at tunnel_cmp [] ts e)) (sym here)

gone_end : {X : Type 0} (key : EntityKey) (ts : List (TunnelEnd × List (Item X))) (end q : TunnelEnd) → [] ≡ items_of key (at tunnel_cmp [] ts end)
    → items_of key (at tunnel_cmp [] (without tunnel_cmp ts end) q) ≡ items_of key (at tunnel_cmp [] ts q)
gone_end key ts end q none = ap (items_of key) (at-without tunnel_total [] ts end q) ∙ by (eq_by_cmp tunnel_cmp q end) refl
  where
    by : (b : Bool) → eq_by_cmp tunnel_cmp q end ≡ b → items_of key (cond b [] (at tunnel_cmp [] ts q)) ≡ items_of key (at tunnel_cmp [] ts q)
    by false tie = refl
    by true tie =
        let here : q ≡ end = tunnel_exact q end ((Equal-is (tunnel_cmp q end)).0 tie) in
        none ∙ ap (λ (e : TunnelEnd). items_of key (at tunnel_cmp [] ts e)) (sym here)

there_at : {X : Type 0} (ts : List (TunnelEnd × List (Item X))) (end : TunnelEnd) (items : List (Item X)) → find tunnel_cmp ts end ≡ Some items
    → at tunnel_cmp [] ts end ≡ items
unfolding at
there_at ts end items found = ap (λ (o : Option (List (Item _))). unwrap_or o []) found

-- ---- a control message of another terminal

not_its : (n : ℕ) (other ue : UeId) → n ≡ ue.0 → other ≢ ue → (n == other.0) ≡ false
not_its n other ue is apart = by (n == other.0) refl
  where
    by : (b : Bool) → (n == other.0) ≡ b → (n == other.0) ≡ false
    by false e = e
    by true e = absurd (apart (ap (λ (m : ℕ). record { 0 = m }) (sym (eqb-true n other.0 e) ∙ is)))

control_message_end : {M : Type 0} (other : UeId) (es : List (ℕ × ControlMessage M)) (e : ℕ × ControlMessage M) → (e.1.ue == other.0) ≡ false
    → control_messages_of other (es ++ e ∷ []) ≡ control_messages_of other es
control_message_end other [] e no_one = ap (λ (b : Bool). (if b then e.1 ∷ [] else []) ++ []) no_one
control_message_end other (x ∷ es) e no_one = ap (λ (ls : List (ControlMessage _)). (if x.1.ue == other.0 then x.1 ∷ [] else []) ++ ls) (control_message_end other es e no_one)

module _ {M C L P : Type 0} (world : World M C L P) (ue : UeId) where
  abbrev pub Stay : State M C L P → State M C L P → Type 0
  Stay s t = OthersStay ue s t

  pub stay_same : (s t : State M C L P) → t.bag.control_messages ≡ s.bag.control_messages → t.tunnels ≡ s.tunnels → t.radios ≡ s.radios → t.books ≡ s.books → t.connected ≡ s.connected → t.plans ≡ s.plans → Stay s t
  stay_same s t bag tunnels radios books connected plans = record {
    control_messages = λ other apart. ap (control_messages_of other) bag;
    tunnels = λ end key apart. ap (λ (ts : List (TunnelEnd × List (Item L))). items_of key (at tunnel_cmp [] ts end)) tunnels;
    radios = λ key apart. ap (λ (rs : List (EntityKey × Radio P)). at entity_cmp (record { items = []; carried = 0 }) rs key) radios;
    books = λ key apart. ap (λ (bs : List (EntityKey × Book)). at entity_cmp new_book bs key) books;
    connected = λ other apart. ap (λ (cs : List (UeId × ℕ)). find ue_cmp cs other) connected;
    plans = λ other apart. ap (λ (ps : _). find ue_cmp ps other) plans;
  }

  pub stay_then : (s t u : State M C L P) → Stay s t → Stay t u → Stay s u
  stay_then s t u p q = record {
    control_messages = λ other apart. q.control_messages other apart ∙ p.control_messages other apart;
    tunnels = λ end key apart. q.tunnels end key apart ∙ p.tunnels end key apart;
    radios = λ key apart. q.radios key apart ∙ p.radios key apart;
    books = λ key apart. q.books key apart ∙ p.books key apart;
    connected = λ other apart. q.connected other apart ∙ p.connected other apart;
    plans = λ other apart. q.plans other apart ∙ p.plans other apart;
  }

  -- where it goes on
  abbrev pub StayFrom : State M C L P → Within M C L P → Type 0
  StayFrom s (goes told t) = Stay s t
  StayFrom s (stops told why) = Unit {0}

  abbrev pub Keeps : (State M C L P → Within M C L P) → Type 0
  Keeps f = (t : State M C L P) → StayFrom t (f t)

  pub then_stay : (s : State M C L P) (e : Within M C L P) (f : State M C L P → Within M C L P) → StayFrom s e → Keeps f → StayFrom s (e next f)
  then_stay s (goes told t) f p q = by (f t) (q t)
    where
      by : (e : Within M C L P) → StayFrom t e → StayFrom s (told_before told e)
      by (goes more u) h = stay_then s t u p h
      by (stops more why) h = tt
  then_stay s (stops told why) f p q = tt

  pub then_from : (s : State M C L P) (e : Within M C L P) (f : State M C L P → Within M C L P) → StayFrom s e
      → ((t : State M C L P) → Stay s t → StayFrom t (f t)) → StayFrom s (e next f)
  then_from s (goes told t) f p q = by (f t) (q t p)
    where
      by : (e : Within M C L P) → StayFrom t e → StayFrom s (told_before told e)
      by (goes more u) h = stay_then s t u p h
      by (stops more why) h = tt
  then_from s (stops told why) f p q = tt

  pub same : (s : State M C L P) → Stay s s
  same s = stay_same s s refl refl refl refl refl refl

  pub keep_checked : Keeps check_spans
  unfolding check_spans
  keep_checked s = by (first_outstanding s (flat_map entities_of s.plans))
    where
      by : (o : Option Stop) → StayFrom s (checked_by s o)
      by None = same s
      by (Some why) = tt

  -- ---- one thing of the terminal changes

  apart_of : (who other : UeId) → who ≡ ue → other ≢ ue → other ≢ who
  apart_of who other is apart e = apart (e ∙ is)

  pub book_stays : (s : State M C L P) (key : EntityKey) (book : Book) → key.ue ≡ ue → Stay s (with_book key book s)
  book_stays s key book is = record {
    control_messages = λ other apart. refl;
    tunnels = λ end key apart. refl;
    radios = λ q apart. refl;
    books = λ q apart. put_apart new_book s.books key book q (apart_of key.ue q.ue is apart);
    connected = λ other apart. refl;
    plans = λ other apart. refl;
  }

  radio_stays : (s : State M C L P) (key : EntityKey) (r : Radio P) → key.ue ≡ ue → Stay s (with_radio key r s)
  radio_stays s key r is = record {
    control_messages = λ other apart. refl;
    tunnels = λ end key apart. refl;
    radios = λ q apart. put_apart (record { items = []; carried = 0 }) s.radios key r q (apart_of key.ue q.ue is apart);
    books = λ q apart. refl;
    connected = λ other apart. refl;
    plans = λ other apart. refl;
  }

  empty_stays : (s : State M C L P) (key : EntityKey) → key.ue ≡ ue → Stay s (record s { radios = emptied s.radios key })
  empty_stays s key is = record {
    control_messages = λ other apart. refl;
    tunnels = λ end key apart. refl;
    radios = λ q apart. without_apart (record { items = []; carried = 0 }) s.radios key q (apart_of key.ue q.ue is apart);
    books = λ q apart. refl;
    connected = λ other apart. refl;
    plans = λ other apart. refl;
  }

  connect_stays : (s : State M C L P) (who : UeId) (epoch : Option ℕ) → who ≡ ue → Stay s (connect_in world who epoch s)
  connect_stays s who epoch is = record {
    control_messages = λ other apart. refl;
    tunnels = λ end key apart. refl;
    radios = λ q apart. refl;
    books = λ q apart. refl;
    connected = λ other apart. by other (apart_ues other who (apart_of who other is apart)) epoch;
    plans = λ other apart. refl;
  }
    where
      by : (other : UeId) → eq_by_cmp ue_cmp other who ≡ false → (o : Option ℕ) → find ue_cmp (connect s.connected who o) other ≡ find ue_cmp s.connected other
      by other apart None = find-without-other ue_total s.connected who other apart
      by other apart (Some n) = find-put-other ue_total s.connected who n other apart

  -- ---- what is put

  tunnel_stays : (s : State M C L P) (end : TunnelEnd) (items : List (Item L))
      → ((key : EntityKey) → key.ue ≢ ue → items_of key items ≡ items_on s end key) → Stay s (record s { tunnels = put tunnel_cmp s.tunnels end items })
  tunnel_stays s end items same_there = record {
    control_messages = λ other apart. refl;
    tunnels = λ q key apart. at_end key s.tunnels end q items (same_there key apart);
    radios = λ q apart. refl;
    books = λ q apart. refl;
    connected = λ other apart. refl;
    plans = λ other apart. refl;
  }

  away : (item : EntityKey) (key : EntityKey) → item.ue ≡ ue → key.ue ≢ ue → item.ue ≢ key.ue
  away item key is apart e = apart (sym e ∙ is)

  keep_on_tunnel : (s : State M C L P) (end : TunnelEnd) (item : Item L) → item.key.ue ≡ ue → (o : Option (List (Item L))) → find tunnel_cmp s.tunnels end ≡ o
      → StayFrom s (on_tunnel world s end item o)
  keep_on_tunnel s end item is None found = same s
  keep_on_tunnel s end item is (Some items) found =
      tunnel_stays s end (items ++ item ∷ [])
      (λ key apart. item_end key items item (away item.key key is apart) ∙ ap (items_of key) (sym (there_at s.tunnels end items found)))

  pub keep_put_on_tunnel : (end : TunnelEnd) (item : Item L) → item.key.ue ≡ ue → Keeps (put_on_tunnel world end item)
  unfolding put_on_tunnel
  keep_put_on_tunnel end item is s =
      then_stay s (goes (put_item (tunnel_link end) (shown item.key item.count (world.show_item item.content)) ∷ []) s)
      (λ t. on_tunnel world t end item (find tunnel_cmp t.tunnels end)) (same s) (λ t. keep_on_tunnel t end item is (find tunnel_cmp t.tunnels end) refl)

  keep_connected : (key : EntityKey) (epoch : ℕ) (item : Item P) → key.ue ≡ ue → Keeps (put_on_connected world key epoch item)
  keep_connected key epoch item is s = by (is_epoch (find ue_cmp s.connected key.ue) epoch)
    where
      by : (t : Bool) → StayFrom s (if t
          then goes_on (with_radio key (record (radio_of s key) { items = (radio_of s key).items ++ item ∷ [] }) s)
          else goes (lost_items (radio_link key epoch) 1 ∷ []) s)
      by true = radio_stays s key (record (radio_of s key) { items = (radio_of s key).items ++ item ∷ [] }) is
      by false = same s

  keep_put_on_radio : (epoch : ℕ) (item : Item P) → item.key.ue ≡ ue → Keeps (put_on_radio world epoch item)
  unfolding put_on_radio
  keep_put_on_radio epoch item is s =
      then_stay s (goes (put_item (radio_link item.key epoch) (shown item.key item.count (world.show_pdu item.content)) ∷ []) s)
      (put_on_connected world item.key epoch item) (same s) (keep_connected item.key epoch item is)

  noted_stays : (key : EntityKey) (tag : Tag) (s : State M C L P) → key.ue ≡ ue → Stay s (noted key tag s)
  noted_stays key Absent s is = same s
  noted_stays key (Own count) s is = book_stays s key (record (book_of s key) { numbered = max (book_of s key).numbered (count + 1) }) is
  noted_stays key Same s is = same s

  from_noted : (key : EntityKey) (tag : Tag) (s : State M C L P) (e : Within M C L P) → key.ue ≡ ue → StayFrom (noted key tag s) e → StayFrom s e
  from_noted key tag s (goes told t) is h = stay_then s (noted key tag s) t (noted_stays key tag s is) h
  from_noted key tag s (stops told why) is h = tt

  its_ue : (who : UeId) → who.0 ≡ ue.0 → who ≡ ue
  its_ue who e = ap (λ (n : ℕ). record { 0 = n }) e

  keep_put : (from : State M C L P) (node : NodeId) (taken : Option ℕ) (output : Put M L P) → IsOutputFor ue from node output → (s : State M C L P) → Stay from s
      → StayFrom s (put_out world node taken output s)
  unfolding put_control put_control_message opens closes
  keep_put from node taken (control to who message) is s st = record {
    control_messages = λ other apart. control_message_end other s.bag.control_messages _ (not_its who other ue is apart);
    tunnels = λ end key apart. refl;
    radios = λ q apart. refl;
    books = λ q apart. refl;
    connected = λ other apart. refl;
    plans = λ other apart. refl;
  }
  keep_put from node taken (packet to teid who bearer dir tag load) is s st =
      from_noted (entity who bearer dir) tag s _ (its_ue who is)
      (keep_put_on_tunnel (record { node = to; teid = teid }) (item_of world who bearer dir (count_beside tag taken) load) (its_ue who is) (noted (entity who bearer dir) tag s))
  keep_put from node taken (radio who bearer dir epoch tag pdu) is s st =
      from_noted (entity who bearer dir) tag s _ (its_ue who is)
      (keep_put_on_radio epoch (item_of world who bearer dir (count_beside tag taken) pdu) (its_ue who is) (noted (entity who bearer dir) tag s))
  keep_put from node taken (deliver who bearer dir count p) is s st =
      book_stays s (entity who bearer dir) (record (book_of s (entity who bearer dir)) { delivered = (book_of s (entity who bearer dir)).delivered + 1 }) (its_ue who is)
  keep_put from node taken (dropped reason) is s st = same s
  keep_put from node taken (opened teid) is s st = tunnel_stays s (record { node = node; teid = teid }) (at tunnel_cmp [] s.tunnels (record { node = node; teid = teid })) (λ key apart. refl)
  keep_put from node taken (closed teid) is s st =
      let end : TunnelEnd = record { node = node; teid = teid } in
      record {
        control_messages = λ other apart. refl;
        tunnels = λ q key apart. gone_end key s.tunnels end q (sym (st.tunnels end key apart ∙ is key apart));
        radios = λ q apart. refl;
        books = λ q apart. refl;
        connected = λ other apart. refl;
        plans = λ other apart. refl;
      }
  keep_put from node taken (failed who cause) is s st = same s
  keep_put from node taken (held reason) is s st = same s
  keep_put from node taken (no reason) is s st = same s

  pub keep_put_all : (from : State M C L P) (node : NodeId) (taken : Option ℕ) (outputs : List (Put M L P)) → AllByRecursion (IsOutputFor ue from node) outputs
      → (s : State M C L P) → Stay from s → StayFrom s (put_out_all world node taken outputs s)
  unfolding put_out_all
  keep_put_all from node taken [] all s st = same s
  keep_put_all from node taken (output ∷ outputs) all s st =
      then_from s (put_out world node taken output s) (put_out_all world node taken outputs) (keep_put from node taken output all.0 s st)
      (λ t later. keep_put_all from node taken outputs all.1 t (stay_then from s t st later))

  -- ---- radios that are lost, and a terminal that goes

  abbrev AllItsOwn : List EntityKey → Type 0
  AllItsOwn keys = AllByRecursion (λ (key : EntityKey). key.ue ≡ ue) keys

  keep_lose_each : (epoch : ℕ) (keys : List EntityKey) → AllItsOwn keys → Keeps (lose_each world epoch keys)
  keep_lose_each epoch [] all s = same s
  keep_lose_each epoch (key ∷ keys) all s =
      then_stay s (goes (radio_lost world epoch key (radio_of s key).items) (record s { radios = emptied s.radios key })) (lose_each world epoch keys)
      (empty_stays s key all.0) (keep_lose_each epoch keys all.1)

  its_radios : (who : UeId) → who ≡ ue → (rs : List (EntityKey × Radio P)) → AllItsOwn (radios_of world who rs)
  its_radios who is [] = tt
  its_radios who is (r ∷ rs) = by (r.0.ue.0 == who.0) refl (its_radios who is rs)
    where
      by : (b : Bool) → (r.0.ue.0 == who.0) ≡ b → AllItsOwn (radios_of world who rs)
          → AllItsOwn ((if b then r.0 ∷ [] else []) ++ radios_of world who rs)
      by true e more = (ap (λ (n : ℕ). record { 0 = n }) (eqb-true r.0.ue.0 who.0 e) ∙ is, more)
      by false e more = more

  keep_lose_of : (who : UeId) → who ≡ ue → (o : Option ℕ) → Keeps (lose_radios_of world who o)
  keep_lose_of who is None s = same s
  keep_lose_of who is (Some epoch) s = keep_lose_each epoch (radios_of world who s.radios) (its_radios who is s.radios) s

  keep_lose : (who : UeId) → who ≡ ue → Keeps (lose_radios world who)
  unfolding lose_radios
  keep_lose who is s = keep_lose_of who is (find ue_cmp s.connected who) s

  keep_reconnect : (who : UeId) → who ≡ ue → Keeps (reconnect world who)
  keep_reconnect who is s = by (same_epoch world (find ue_cmp s.connected who) (epoch_now world s who))
    where
      by : (t : Bool) → StayFrom s (if t then goes_on s
          else (lose_radios world who s next (λ t. goes_on (connect_in world who (epoch_now world s who) t))))
      by true = same s
      by false =
          then_stay s (lose_radios world who s) (λ t. goes_on (connect_in world who (epoch_now world s who) t)) (keep_lose who is s)
          (λ t. connect_stays t who (epoch_now world s who) is)

  keep_node : (node : NodeId) → IsNodeFor ue node → Keeps (reconnect_node world node)
  keep_node (Ue n) is s = keep_reconnect (record { 0 = n }) is s
  keep_node (CuCp gnb) is s = same s
  keep_node (CuUp gnb number) is s = same s
  keep_node (Du gnb number) is s = same s
  keep_node Core is s = same s

  -- ---- a whole step

  pub first_stays : (cause : Cause M L P) (s : State M C L P) → IsCauseFor ue s cause → StayFrom s (first_of world cause s)
  unfolding landed
  first_stays (by_order node order) s is = same s
  first_stays (by_tick node) s is = same s
  first_stays (by_octets from to octets) s is = same s
  first_stays (by_octets_on end octets) s is = same s
  first_stays (by_attach plan) s is = record {
    control_messages = λ other apart. refl;
    tunnels = λ end key apart. refl;
    radios = λ q apart. refl;
    books = λ q apart. refl;
    connected = λ other apart. refl;
    plans = λ other apart. find-put-other ue_total s.plans plan.ue plan other (apart_ues other plan.ue (apart_of plan.ue other is apart));
  }
  first_stays (by_release gnb who) s is =
      then_stay s (lose_radios world who s) (λ t. goes_on (record (connect_in world who None t) { gone = t.gone ++ who ∷ [] })) (keep_lose who is s)
      (λ t. let c = connect_stays t who None is in
      record { control_messages = c.control_messages; tunnels = c.tunnels; radios = c.radios; books = c.books; connected = c.connected; plans = c.plans })
  first_stays (by_offer who bearer p) s is =
      book_stays s (entity who bearer Ul) (record (book_of s (entity who bearer Ul)) { offered = (book_of s (entity who bearer Ul)).offered + 1 }) is
  first_stays (by_item end item rest) s is =
      tunnel_stays s end rest
      (λ key apart. sym (item_first key item rest (away item.key key is.0 apart)) ∙ ap (items_of key) (sym (there_at s.tunnels end (item ∷ rest) is.1)))
  first_stays (by_air key home item) s is = radio_stays s key (record (radio_of s key) { carried = (radio_of s key).carried + 1 }) is
  first_stays (by_ack key home item rest) s is = radio_stays s key (record { items = rest; carried = (radio_of s key).carried - 1 }) is
  first_stays (by_control_message number l to) s is = stay_same s _ refl refl refl refl refl refl

  step_stays : (cause : Cause M L P) (outputs : List (Put M L P)) (units : Units M C) (s : State M C L P) → IsStepFor ue s cause
      → AllByRecursion (IsOutputFor ue s (node_of cause)) outputs → StayFrom s (carried_out world (node_of cause) (count_of cause) (first_of world cause) outputs units s)
  step_stays cause outputs units s is all =
      let node : NodeId = node_of cause in
      let t : State M C L P = record s { units = units } in
      as_before (first_of world cause t next reconnect_node world node next put_out_all world node (count_of cause) outputs next check_spans)
      (then_stay t (first_of world cause t next reconnect_node world node next put_out_all world node (count_of cause) outputs) check_spans
      (then_from t (first_of world cause t next reconnect_node world node) (put_out_all world node (count_of cause) outputs)
      (then_stay t (first_of world cause t) (reconnect_node world node) (first_stays cause t is.1) (keep_node node is.0))
      (λ u st. keep_put_all t node (count_of cause) outputs all u st)) keep_checked)
    where
      as_before : (e : Within M C L P) → StayFrom (record s { units = units }) e → StayFrom s e
      as_before (goes told u) h = record { control_messages = h.control_messages; tunnels = h.tunnels; radios = h.radios; books = h.books; connected = h.connected; plans = h.plans }
      as_before (stops told why) h = tt

  pub others_stay : (cause : Cause M L P) (outputs : List (Put M L P)) (units : Units M C) (s t : State M C L P) (lines : List (RunLine M)) → IsStepFor ue s cause
      → AllByRecursion (IsOutputFor ue s (node_of cause)) outputs → carried_out world (node_of cause) (count_of cause) (first_of world cause) outputs units s ≡ goes lines t → Stay s t
  others_stay cause outputs units s t lines is all goes_so = subst (StayFrom s) goes_so (step_stays cause outputs units s is all)
