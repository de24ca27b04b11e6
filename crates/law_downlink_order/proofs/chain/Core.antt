-- What the core does, and what the terminal takes, keep all; and no numbered packet is ever a duplicate.
use Rattle.std.proofs.Common.{◌≡◌, ℕ, zero, suc, ◌+◌, ◌-◌, ◌<◌, ◌≤◌, max, Bool, true, false, ◌&&◌, ◌==◌, nat_lt, nat_le, List, [], ◌∷◌, ◌++◌, Option, Some, None, refl, sym, ap, subst, ◌∙◌, true≢false, arith}
use Rattle.std.specs.List.{AllByRecursion}
use Rattle.gnb_types.specs.declared.names.SnBits.{SnBits}
use Rattle.intervals.specs.Intervals.{segment, upto, HasNoGap, reach}
use Rattle.intervals.proofs.Intervals.{upto-snoc}
use Rattle.tables.specs.Tables.{find, put}
use Rattle.pdcp_defs.specs.Senders.{window, may_restore, is_above, last_of}
use Rattle.pdcp_defs.specs.Receivers.{Receiver, is_duplicate, stored, deliver}
use Rattle.bearer_defs.specs.chain_defs.Models.{Item, numbered, fresh, end_marker, Member, Model, set, is_open, is_fed}
use Rattle.bearer_defs.specs.chain_defs.Orders.{offers, switches_path, carries, handed, after}
use Rattle.bearer_defs.specs.chain_defs.Assumptions.{OnForwarding}
use Rattle.law_downlink_order.proofs.chain.Tunnels.{flow, flow-put, flow-close, flow-none}
use Rattle.law_downlink_order.proofs.chain.Facts.{Ghost, view, pairs, Radio, RadioOf, Kept, Good}
use Rattle.law_downlink_order.proofs.chain.Frames.{apart, kept_one, kept_two, fine_later, own_later, Later, same, set_back}
use Rattle.law_downlink_order.proofs.chain.Taking.{took_numbered, not_held}

module _ (p : ℕ → List ℕ) (w : ℕ) (s : Model) (g : ℕ → Ghost) (k : Kept p w s g) where
  abbrev x : ℕ
  x = s.path

  abbrev m : Member
  m = s.members s.path

  abbrev h : Ghost
  h = g s.path

  -- ---- a packet is offered

  pub kept_offers : (packet : List ℕ) → packet ≡ p s.offered → Good p w (after s (offers packet))
  unfolding after
  kept_offers packet packet_is =
      let f = k.each x in
      let on = f.path refl in
      let o = f.own on.is_there in
      let n3 = o.tunnels.is_n3 on.is_open in
      let t : Model = record s { offered = s.offered + 1 } in
      let later : Later (view s) (view t) = record
      { epoch = omega arith; offered = omega arith; deliv = omega arith; reached = λ _. omega arith } in
      let b = own_later p w (view s) (view t) m h later o in
      let ghost : Ghost = record h { n3_high = h.n3_high + 1 } in (
        set g x ghost,
        kept_one p w s t g x (record m { n3 = m.n3 ++ fresh packet ∷ [] }) ghost k
            (record {
              own = λ _. record {
                lists = b.lists;
                status = b.status;
                flags = b.flags;
                spoken = b.spoken;
                numbers = b.numbers;
                tunnels = record {
                  is_fed = b.tunnels.is_fed;
                  is_n3 = λ _. record {
                    items = rw (n3.items, on.is_not_gone, packet_is, ← on.is_last) (flow-put p h.n3_low h.n3_high n3.ordered);
                    ordered = (let a = n3.ordered in omega arith);
                    offered_all = (let a = on.is_last in omega arith);
                  };
                  fed_open = b.tunnels.fed_open;
                  shut = b.tunnels.shut;
                  shut_n3 = b.tunnels.shut_n3;
                  closed = b.tunnels.closed;
                };
              };
              path = λ _. record {
                is_there = on.is_there;
                is_open = on.is_open;
                is_last = ap (λ n. n + 1) on.is_last;
                is_not_gone = on.is_not_gone;
                is_pathed = on.is_pathed;
              };
              station = f.station;
            })
            (λ q far. record {
              own = λ e. own_later p w (view s) (view t) (s.members q) (g q) later ((k.each q).own e);
              path = λ e. absurd (far e);
              station = (k.each q).station;
            })
            (λ e. (k.links x x e on.is_there).other refl)
            (λ y _ e there. (let l = k.links x y e there in record {
              from = l.from;
              other = l.other;
              open_ = l.open_;
              ended = l.ended;
              held = l.held;
              top = l.top;
              base = l.base;
              after = λ u. apart u on.is_not_gone;
              before = l.before;
            }))
            (λ z _ e there. (let l = k.links z x e there in record {
              from = l.from;
              other = l.other;
              open_ = l.open_;
              ended = l.ended;
              held = l.held;
              top = l.top;
              base = l.base;
              after = l.after;
              before = λ u. apart on.is_pathed (l.before u).2;
            }))
            (record {
              no_gap = k.radio.no_gap;
              packets = k.radio.packets;
              reached_offered = (let a = k.radio.reached_offered in omega arith);
              delivered_are = k.radio.delivered_are;
              none_stored = k.radio.none_stored;
            }),
      )

  -- ---- the path is switched: an End Marker behind all on the old one

  pub kept_switches_path : (y : ℕ) → y ≡ s.station → m.flags.frozen ≡ true → m.next_hop ≡ y → Good p w (after s (switches_path y))
  unfolding after
  kept_switches_path y is_station frozen leads =
      let f = k.each x in
      let on = f.path refl in
      let o = f.own on.is_there in
      let n3 = o.tunnels.is_n3 on.is_open in
      let fy = k.each y in
      let st = fy.station is_station in
      let q = fy.own st.is_there in
      let l = k.links x y (on.is_there, frozen, on.is_open, leads) st.is_there in
      let untouched = l.before on.is_not_gone in
      let open_y = q.tunnels.fed_open l.open_ in
      let n3_y = q.tunnels.is_n3 open_y in
      let t : Model = record s { path = y } in
      let now : Member = record m { n3 = m.n3 ++ end_marker ∷ [] } in
      let gone : Ghost = record h { gone = true } in
      let ghost : Ghost = record (g y) { n3_low = s.offered; n3_high = s.offered; pathed = true } in
      let none : s.offered ≤ s.offered = omega arith in
      let empty : (s.members y).n3 ≡ [] =
      n3_y.items ∙ ap (λ e. flow p (g y).n3_low (g y).n3_high e) untouched.1 ∙ flow-none p (g y).n3_low (g y).n3_high
      (let a = untouched.0 in omega arith) in (
        set (set g x gone) y ghost,
        subst (λ c. Kept p w (record t { members = c }) (set (set g x gone) y ghost)) (set_back s.members x now y l.other)
            (kept_two p w s t g x now gone y (s.members y) ghost leads l.other k
            (record {
              own = λ _. record {
                lists = o.lists;
                status = o.status;
                spoken = o.spoken;
                numbers = o.numbers;
                flags = record { serves = o.flags.serves; leads = o.flags.leads; gone_frozen = λ _. frozen };
                tunnels = record {
                  is_fed = o.tunnels.is_fed;
                  is_n3 = λ _. record {
                    items = rw (n3.items, on.is_not_gone) (flow-close p h.n3_low h.n3_high);
                    ordered = n3.ordered;
                    offered_all =
                        n3.offered_all;
                  };
                  fed_open = o.tunnels.fed_open;
                  shut = o.tunnels.shut;
                  shut_n3 = o.tunnels.shut_n3;
                  closed = λ _. refl;
                };
              };
              path = λ e. absurd (l.other (sym e));
              station = λ e. absurd (l.other (is_station ∙ sym e));
            })
            (record {
              own = λ _. record {
                lists = q.lists;
                status = q.status;
                flags = q.flags;
                spoken = q.spoken;
                numbers = q.numbers;
                tunnels = record {
                  is_fed = λ e. (let a = q.tunnels.is_fed e in record {
                    items = a.items;
                    held_base = a.held_base;
                    to_come = a.to_come;
                    all_come = a.all_come;
                    top_hop = a.top_hop;
                    hop_offered = a.hop_offered;
                    at_end = λ u. apart u l.ended;
                  });
                  is_n3 = λ _. record
                      { items = rw untouched.1 (empty ∙ sym (flow-none p s.offered s.offered none)); ordered = none; offered_all = none };
                  fed_open = q.tunnels.fed_open;
                  shut = q.tunnels.shut;
                  shut_n3 = λ e _. apart l.open_ e;
                  closed = q.tunnels.closed;
                };
              };
              path = λ _. record { is_there = st.is_there; is_open = open_y; is_last = refl; is_not_gone = untouched.1; is_pathed = refl };
              station = fy.station;
            })
            (λ z far_x far_y. record {
              own = λ e. own_later p w (view s) (view t) (s.members z) (g z)
                  (record { epoch = omega arith; offered = omega arith; deliv = omega arith; reached = λ _. omega arith })
                  ((k.each z).own e);
              path = λ e. absurd (far_y e);
              station = (k.each z).station;
            })
            (λ _ _. record {
              from = l.from;
              other = l.other;
              open_ = l.open_;
              ended = l.ended;
              held = l.held;
              top = l.top;
              base = l.base;
              after = λ _. sym on.is_last;
              before = λ u. absurd (true≢false u);
            })
            (λ z far_x _ e there. absurd (far_x (sym (k.links z y e there).from ∙ l.from)))
            (λ e. (k.links y y e st.is_there).other refl)
            (λ z _ _ e there. (let a = k.links z x e there in record {
              from = a.from;
              other = a.other;
              open_ = a.open_;
              ended = a.ended;
              held = a.held;
              top = a.top;
              base = a.base;
              after = a.after;
              before = λ u. apart on.is_pathed (a.before u).2;
            }))
            (λ e there. (let a = k.links y x e there in record {
              from = a.from;
              other = a.other;
              open_ = a.open_;
              ended = a.ended;
              held = a.held;
              top = a.top;
              base = a.base;
              after = λ u. apart u untouched.1;
              before = λ u. apart on.is_pathed (a.before u).2;
            }))
            (λ z _ _ e there. (let a = k.links y z e there in record {
              from = a.from;
              other = a.other;
              open_ = a.open_;
              ended = a.ended;
              held = a.held;
              top = a.top;
              base = a.base;
              after = λ u. apart u untouched.1;
              before = a.before;
            }))
            k.radio),
      )

  -- ---- the terminal takes the next item of its radio

  -- a received one is a duplicate; the next one is handed up
  taken_late : (r : Receiver (List ℕ)) (count : ℕ) → r.stored ≡ [] → count < r.deliv → is_duplicate r count ≡ true
  unfolding is_duplicate
  taken_late r count none l = let t : nat_lt count r.deliv ≡ true = grind arith in rw t

  taken_next : (r : Receiver (List ℕ)) (count : ℕ) → r.stored ≡ [] → count ≡ r.deliv → is_duplicate r count ≡ false
  unfolding is_duplicate find
  taken_next r count none e = let t : nat_lt count r.deliv ≡ false = grind arith in rw (none, t)

  handed_up : (r : Receiver (List ℕ)) (count : ℕ) (packet : List ℕ) → r.stored ≡ [] → count ≡ r.deliv
      → deliver (stored r count packet) ≡ record { packets = (count, packet) ∷ []; after = record { deliv = r.deliv + 1; stored = [] } }
  unfolding deliver stored put
  handed_up r count packet none e = let t : (count == r.deliv) ≡ true = same count r.deliv e in rw (none, t)

  first_item : (count : ℕ) (packet : List ℕ) (rest : List (ℕ × List ℕ)) → Radio p s.offered s.terminal.deliv s.terminal.stored
      ((count, packet) ∷ rest) s.delivered
      → (count ≤ s.terminal.deliv) × (packet ≡ p count) × HasNoGap (max s.terminal.deliv (count + 1)) rest
      × AllByRecursion (λ (e : ℕ × List ℕ). e.1 ≡ p e.0) rest
      × (reach s.terminal.deliv ((count, packet) ∷ rest) ≡ reach (max s.terminal.deliv (count + 1)) rest)
  unfolding HasNoGap reach
  first_item count packet rest r = (r.no_gap.0, r.packets.0, r.no_gap.1, r.packets.1, refl)

  -- the state is the same but for these
  abbrev was_received : List (ℕ × List ℕ) → Receiver (List ℕ) → List (ℕ × List ℕ) → Model
  was_received air terminal delivered = record s { air = air; terminal = terminal; delivered = delivered }

  receives : (air : List (ℕ × List ℕ)) (terminal : Receiver (List ℕ)) (delivered : List (ℕ × List ℕ)) → s.terminal.deliv ≤ terminal.deliv
      → reach s.terminal.deliv s.air ≡ reach terminal.deliv air → RadioOf p (was_received air terminal delivered) → Kept p w
      (was_received air terminal delivered) g
  receives air terminal delivered more reached radio = record {
    each = λ q. fine_later p w (view s) (view (was_received air terminal delivered)) q (s.members q) (g q)
        (record { epoch = omega arith; offered = omega arith; deliv = more; reached = λ _. omega (arith, reached) }) refl refl refl
        (k.each q);
    links = k.links;
    radio = radio;
  }

  pub kept_carries : (count : ℕ) (packet : List ℕ) (rest : List (ℕ × List ℕ)) → s.air ≡ (count, packet) ∷ rest
      → Good p w (after s (carries count packet rest))
  unfolding after
  kept_carries count packet rest stands = by (nat_lt count s.terminal.deliv) refl
    where
      r : RadioOf p s
      r = k.radio

      f : (count ≤ s.terminal.deliv) × (packet ≡ p count) × HasNoGap (max s.terminal.deliv (count + 1)) rest
          × AllByRecursion (λ (e : ℕ × List ℕ). e.1 ≡ p e.0) rest
          × (reach s.terminal.deliv ((count, packet) ∷ rest) ≡ reach (max s.terminal.deliv (count + 1)) rest)
      f = first_item count packet rest (rw stands at r)

      by : (t : Bool) → nat_lt count s.terminal.deliv ≡ t
          → Good p w (handed (record s { air = rest }) (is_duplicate s.terminal count) (deliver (stored s.terminal count packet)))
      by true t =
          let l : count < s.terminal.deliv = grind arith in
          let e : max s.terminal.deliv (count + 1) ≡ s.terminal.deliv = omega arith in
          let reached : reach s.terminal.deliv s.air ≡ reach s.terminal.deliv rest = ap (reach s.terminal.deliv) stands ∙ f.4 ∙ ap
          (λ n. reach n rest) e in
          subst (λ b. Good p w (handed (record s { air = rest }) b (deliver (stored s.terminal count packet))))
          (sym (taken_late s.terminal count r.none_stored l)) (
            g,
            receives rest s.terminal s.delivered (omega arith) reached (record {
              no_gap = subst (λ n. HasNoGap n rest) e f.2;
              packets = f.3;
              reached_offered = (let a = r.reached_offered in omega (arith, reached));
              delivered_are = r.delivered_are;
              none_stored = r.none_stored;
            }),
          )
      by false t =
          let same : count ≡ s.terminal.deliv = (let a = f.0 in let b : s.terminal.deliv ≤ count = grind arith in omega arith) in
          let e : max s.terminal.deliv (count + 1) ≡ s.terminal.deliv + 1 = omega arith in
          let reached : reach s.terminal.deliv s.air ≡ reach (s.terminal.deliv + 1) rest = ap (reach s.terminal.deliv) stands ∙ f.4 ∙ ap
          (λ n. reach n rest) e in
          let low : 0 ≤ s.terminal.deliv = omega arith in
          subst (λ b. Good p w (handed (record s { air = rest }) b (deliver (stored s.terminal count packet))))
          (sym (taken_next s.terminal count r.none_stored same))
          (subst (λ d. Good p w (handed (record s { air = rest }) false d)) (sym (handed_up s.terminal count packet r.none_stored same)) (
            g,
            receives rest (record { deliv = s.terminal.deliv + 1; stored = [] }) (s.delivered ++ (count, packet) ∷ []) (omega arith)
                reached (record {
                  no_gap = subst (λ n. HasNoGap n rest) e f.2;
                  packets = f.3;
                  reached_offered = (let a = r.reached_offered in omega (arith, reached));
                  delivered_are = rw (r.delivered_are, f.1, same) (sym (upto-snoc (pairs p) 0 s.terminal.deliv low));
                  none_stored = refl;
                }),
          ))

-- ---- no numbered packet is a duplicate where packets are kept

last_segment : (p : ℕ → List ℕ) (a n count : ℕ) (last : Option ℕ) → is_above count last ≡ true → a + n ≤ count
    → is_above count (last_of last (segment (pairs p) a n)) ≡ true
unfolding segment
last_segment p a zero count last h l = h
last_segment p a (suc n) count last h l = let b : nat_lt a count ≡ true = grind arith in last_segment p (a + 1) n count (Some a) b
    (omega arith)

last_upto : (p : ℕ → List ℕ) (low held count : ℕ) → low ≤ held → held ≤ count → is_above count
    (last_of None (upto (pairs p) low held)) ≡ true
unfolding upto
last_upto p low held count l h = last_segment p low (held - low) count None refl (omega arith)

module _ (p : ℕ → List ℕ) (sn : SnBits) (quota : ℕ) (s : Model) (g : ℕ → Ghost) (k : Kept p (window sn quota) s g) (x : ℕ) where
  abbrev c : Member
  c = s.members x

  pub never_drops : (count : ℕ) (packet : List ℕ) (rest : List Item) → OnForwarding c (numbered count packet) rest
      → c.flags.released ≡ false → may_restore sn quota c.bearer.sender count ≡ false → ⊥
  unfolding may_restore
  never_drops count packet rest on keeps no_room =
      let o = (k.each x).own on.there in
      let n = o.numbers in
      let sent : (g x).sent ≤ (g x).held + 1 = (let a = n.sent_held in omega arith) in
      let j = took_numbered p (window sn quota) (view s) (is_fed c) (is_open c.bearer.n3) c.forwarded c.n3 (g x) o.tunnels n count
      (g x).sent packet rest sent on.stands in
      let number = o.status.next_is (not_held c.flags.may_serve c.flags.arrived false on.passes).0 in
      let un = o.lists.unconfirmed_are keeps in
      let a : nat_le ((g x).next - window sn quota) (g x).held ≡ true = (let b = n.window in let d = n.low_held in grind arith) in
      let b : nat_lt (g x).held (g x).next ≡ true = (let d = j.2 in let e = n.base_next in grind arith) in
      let d : is_above (g x).held (last_of None (upto (pairs p) (g x).low (g x).held)) ≡ true = last_upto p (g x).low (g x).held
      (g x).held n.low_held (omega arith) in
      let e : (nat_le ((g x).next - window sn quota) (g x).held && nat_lt (g x).held (g x).next
      && is_above (g x).held (last_of None (upto (pairs p) (g x).low (g x).held))) ≡ false = rw (number, un, j.0) at no_room in
      absurd (true≢false (sym (all a b d) ∙ e))
    where
      all : {a b c : Bool} → a ≡ true → b ≡ true → c ≡ true → (a && b && c) ≡ true
      all h i j = rw (h, i, j)
