-- An item is put on a forwarding tunnel, and an item is taken: a duplicate is dropped, and what a frozen or a released context takes
-- goes on.
use Rattle.std.proofs.Common.{inl, inr, ◌≡◌, ◌≢◌, ◌⊎◌, ℕ, ◌+◌, ◌<◌, ◌≤◌, Bool, true, false, not, List, [], ◌∷◌, ◌++◌, None, refl, sym, ap, subst, arith}
use Rattle.std.specs.List.{AllByRecursion}
use Rattle.intervals.proofs.Intervals.{all_append}
use Rattle.gnb_types.specs.declared.reasons.HeldReason.TheVariants.{NoStatus, NotArrived, Early}
use Rattle.unit_defs.specs.CuUpBearers.{no_uplink}
use Rattle.unit_defs.specs.CuUpItems.{first_held, held_as_target}
use Rattle.bearer_defs.specs.chain_defs.Models.{set}
use Rattle.law_downlink_order.proofs.chain.Frames.{apart}
use Rattle.bearer_defs.specs.uplink_defs.Models.{Item, numbered, Source, uplink_tunnel, forwarding, Member, Model, items_at, standing, uplink_left, forwarded_left, with_rest}
use Rattle.bearer_defs.specs.uplink_defs.Orders.{is_hop_up_done, changed, put_on}
use Rattle.bearer_defs.specs.uplink_defs.Assumptions.{IsOpen, IsTaken, Feeds, NoEnd, kind_of}
use Rattle.bearer_defs.specs.uplink_defs.Places.{has, Stands, IsOnTunnel, IsAt}
use Rattle.law_uplink_order.proofs.facts.Items.{IsRightItem, NoData, EndsLast, rest_ends_last, rest_no_end, data_is_there, first_right, stands-left, stands-one}
use Rattle.law_uplink_order.proofs.facts.Facts.{Ghost, View, view, is_ended, Tunnels, Holds, Own, Beyond, Passed, Kept}
use Rattle.law_uplink_order.proofs.facts.Frames.{either, put_one, kept_one, later_same, at_here, at_far}
use Rattle.law_uplink_order.proofs.facts.Contexts.{feeds_not, stays, none_open}

-- ---- an item is put on the forwarding tunnel of y

abbrev pub with_more : Member → List Item → Member
with_more t items = record t { forwarded = t.forwarded ++ items }

module _ (p : ℕ → List ℕ) (s : Model) (d : ℕ) (g : ℕ → Ghost) (k : Kept p s d g) (y : ℕ) (items : List Item) where
  abbrev t : Member
  t = s.members y

  pub kept_put : AllByRecursion (IsRightItem p s.reached) items
      → (t.is_there ≡ true → EndsLast (t.forwarded ++ items))
      → (t.is_there ≡ true → is_hop_up_done t.flags t.bearer ≡ true → NoData (t.forwarded ++ items))
      → ((z : ℕ) → Feeds (s.members z) y → t.is_there ≡ true → is_ended (s.members z).bearer.hop ≡ false → NoEnd (t.forwarded ++ items))
      → Kept p (put_on s y items) d g
  unfolding Passed
  kept_put right last over open_ = kept_one p s s d d g y (with_more t items) k (later_same s d y)
      (record {
        own = λ there. (let o = (k.each y).own there in record {
          tunnels = record {
            uplink_right = o.tunnels.uplink_right;
            uplink_last = o.tunnels.uplink_last;
            right = all_append (IsRightItem p s.reached) t.forwarded items o.tunnels.right right;
            last = last there;
            over = over there;
          };
          holds = o.holds;
          flags = o.flags;
          placed = o.placed;
        });
        station = (k.each y).station;
      })
      (feeds_not p s d g k y)
      (λ z _. record { link = (k.links y z).link; lives = (k.links y z).lives })
      (λ z _. record {
        link = λ f u. (let l = (k.links z y).link f u in record {
          from = l.from;
          other = l.other;
          target = l.target;
          open_ = λ e. ((l.open_ e).0, open_ z f u e);
          onward = l.onward;
          ahead = λ e. (let a = l.ahead e in record {
            ranks = a.ranks;
            arrived = a.arrived;
            keeps = a.keeps;
            known = a.known;
            unknown = a.unknown;
            forwarded = λ j h. stands-left j t.forwarded items (a.forwarded j h);
          });
        });
        lives = (k.links z y).lives;
      })
      (stays p s d g k y (with_more t items) more)
      (k.passed y)
      (λ i l o. absurd (let a = l in omega arith))
      k.terminal
    where
      more : (i : ℕ) → IsAt s.station y t i → IsAt s.station y (with_more t items) i
      more i (there, inl (inl h)) = (there, inl (inl (stands-left i t.forwarded items h)))
      more i (there, inl (inr h)) = (there, inl (inr h))
      more i (there, inr h) = (there, inr h)

-- ---- what is left of the tunnels, once a packet is taken

module _ (p : ℕ → List ℕ) (n : ℕ) (uplink : ℕ → List Item) (forwarded : List Item) (is_done : Bool) (count : ℕ) (packet : List ℕ)
    (rest : List Item) (t : Tunnels p n uplink forwarded is_done) where
  pub tunnels_taken : (from : Source) → standing uplink forwarded from ≡ numbered count packet ∷ rest
      → Tunnels p n (uplink_left uplink from rest) (forwarded_left forwarded from rest) is_done
  tunnels_taken (uplink_tunnel teid) is = record {
    uplink_right = put_one (λ _ xs. AllByRecursion (IsRightItem p n) xs) uplink teid rest
        (first_right p n count packet (uplink teid) rest is (t.uplink_right teid)).2 (λ i _. t.uplink_right i);
    uplink_last = put_one (λ _ xs. EndsLast xs) uplink teid rest (rest_ends_last count packet (uplink teid) rest is (t.uplink_last teid))
        (λ i _. t.uplink_last i);
    right = t.right;
    last = t.last;
    over = t.over;
  }
  tunnels_taken forwarding is = record {
    uplink_right = t.uplink_right;
    uplink_last = t.uplink_last;
    right = (first_right p n count packet forwarded rest is t.right).2;
    last = rest_ends_last count packet forwarded rest is t.last;
    over = λ done. absurd (data_is_there count packet forwarded rest is (t.over done));
  }

  -- the packet is right, and where a tunnel is open the hop has not ended
  pub taken_right : (from : Source) → standing uplink forwarded from ≡ numbered count packet ∷ rest → (count < n) × (packet ≡ p count)
  taken_right (uplink_tunnel teid) is =
      let r = first_right p n count packet (uplink teid) rest is (t.uplink_right teid) in (r.0, r.1)
  taken_right forwarding is = let r = first_right p n count packet forwarded rest is t.right in (r.0, r.1)

-- which COUNTs stand there before
pub was_there : (i count : ℕ) (packet : List ℕ) (rest : List Item) (m : Member) (from : Source) → items_at m from ≡ numbered count packet ∷ rest
    → IsOnTunnel m i → (i ≡ count) ⊎ IsOnTunnel (with_rest m from rest) i
was_there i count packet rest m (uplink_tunnel teid) is (inl h) = inr (inl h)
was_there i count packet rest m (uplink_tunnel teid) is (inr (t, open_, h)) = by (put_one
    (λ t xs. Stands i (m.uplink t) → (i ≡ count) ⊎ Stands i xs) m.uplink teid rest (stands-one i count packet (m.uplink teid) rest is)
    (λ _ _ u. inr u) t h)
  where
    by : (i ≡ count) ⊎ Stands i (set m.uplink teid rest t) → (i ≡ count) ⊎ IsOnTunnel (with_rest m (uplink_tunnel teid) rest) i
    by (inl e) = inl e
    by (inr u) = inr (inr (t, open_, u))
was_there i count packet rest m forwarding is (inl h) = by (stands-one i count packet m.forwarded rest is h)
  where
    by : (i ≡ count) ⊎ Stands i rest → (i ≡ count) ⊎ IsOnTunnel (with_rest m forwarding rest) i
    by (inl e) = inl e
    by (inr u) = inr (inl u)
was_there i count packet rest m forwarding is (inr h) = inr (inr h)

-- what ended sends no more: no tunnel is open, and nothing stands on that of the hop
pub not_ended : (p : ℕ → List ℕ) (b : View) (q : ℕ) (m : Member) (rank : ℕ) (from : Source) (count : ℕ) (packet : List ℕ) (rest : List Item)
    → Own p b q m rank → IsTaken m from (numbered count packet) rest → is_ended m.bearer.hop ≡ false
not_ended p b q m rank from count packet rest o taken = by (is_ended m.bearer.hop) refl
  where
    closed : (f : Source) → IsOpen m f → items_at m f ≡ numbered count packet ∷ rest → no_uplink m.bearer.uplinks ≡ true
        → is_hop_up_done m.flags m.bearer ≡ true → ⊥
    closed (uplink_tunnel teid) open_ is none done = none_open m.bearer.uplinks teid none open_
    closed forwarding open_ is none done = data_is_there count packet m.forwarded rest is (o.tunnels.over done)

    by : (e : Bool) → is_ended m.bearer.hop ≡ e → is_ended m.bearer.hop ≡ false
    by true e = let h = o.flags.ended e in absurd (closed from taken.open_ taken.stands h.0 h.1)
    by false e = e

abbrev tests : Bool → Bool → Type 0
tests u v = first_held ((not u, NoStatus) ∷ (not v, NotArrived) ∷ (false, Early) ∷ []) ≡ None

pub passes : (p : ℕ → List ℕ) (b : View) (q : ℕ) (m : Member) (rank : ℕ) (from : Source) (item : Item) (rest : List Item)
    → Own p b q m rank → IsTaken m from item rest → (m.flags.may_serve ≡ true) × (m.flags.arrived ≡ true) × (0 < rank)
passes p b q m rank from item rest o taken = by m.flags.may_serve m.flags.arrived refl refl (held from taken.passes)
  where
    held : (f : Source) → first_held (held_as_target m.flags (kind_of f) m.bearer) ≡ None → tests m.flags.may_serve m.flags.arrived
    held (uplink_tunnel teid) h = h
    held forwarding h = h

    by : (u v : Bool) → m.flags.may_serve ≡ u → m.flags.arrived ≡ v → tests u v
        → (m.flags.may_serve ≡ true) × (m.flags.arrived ≡ true) × (0 < rank)
    by true true u v h = (u, v, o.flags.was_there v)
    by true false u v h = absurd cc
    by false v u w h = absurd cc

-- ---- a packet is taken, and this is what is stored then

abbrev pub left : Source → List Item → Member → List (ℕ × List ℕ) → Member
left from rest c es =
    record (with_rest c from rest) { bearer = record c.bearer { receiver = record c.bearer.receiver { stored = es } } }

module _ (p : ℕ → List ℕ) (s : Model) (d : ℕ) (g : ℕ → Ghost) (k : Kept p s d g) (x : ℕ) (from : Source) (count : ℕ) (packet : List ℕ)
    (rest : List Item) where
  abbrev m : Member
  m = s.members x

  abbrev b : View
  b = view s d

  -- where the packet stands or is stored then, if it isn't delivered
  abbrev pub Goes : List (ℕ × List ℕ) → Type 0
  Goes es = (count < d) ⊎ (Beyond b s.members g ((g x).rank + 1) count ⊎ ((x ≡ s.station) × (has es count ≡ true)))

  -- of a context that is c, where all this is so
  abbrev pub IsTakenAt : Member → List (ℕ × List ℕ) → Type 0
  IsTakenAt c es = IsTaken c from (numbered count packet) rest
      → Holds p s.reached c.flags.frozen c.flags.released c.flags.may_serve c.bearer.receiver.deliv es
      → ((i : ℕ) → has c.bearer.receiver.stored i ≡ true → has es i ≡ true)
      → Goes es
      → (x ≢ s.station → (i : ℕ) → has es i ≡ true → Beyond b s.members g ((g x).rank + 1) i)
      → ((y : ℕ) → x ≡ s.station → Feeds c y → (s.members y).is_there ≡ true → (i : ℕ) → has es i ≡ true
      → Stands i (s.members y).forwarded)
      → Kept p (changed s x (left from rest c es)) d g

  pub kept_taken : (es : List (ℕ × List ℕ)) → IsTakenAt m es
  unfolding Beyond
  kept_taken es taken holds more goes further ahead = kept_one p s s d d g x (left from rest m es) k (later_same s d x)
      (record {
        own = λ there. (let o = (k.each x).own there in record {
          tunnels = tunnels_taken p s.reached m.uplink m.forwarded (is_hop_up_done m.flags m.bearer) count packet rest o.tunnels from
              taken.stands;
          holds = holds;
          flags = o.flags;
          placed = o.placed;
        });
        station = λ e. (let st = (k.each x).station e in record {
          there = st.there;
          keeps = st.keeps;
          ranks = st.ranks;
          known = st.known;
          unknown = st.unknown;
        });
      })
      (feeds_not p s d g k x)
      (λ y _. record {
        link = λ f u. (let l = (k.links x y).link f u in record {
          from = l.from;
          other = l.other;
          target = l.target;
          open_ = l.open_;
          onward = l.onward;
          ahead = λ e. (let a = l.ahead e in record {
            ranks = a.ranks;
            arrived = a.arrived;
            keeps = a.keeps;
            known = a.known;
            unknown = a.unknown;
            forwarded = λ j h. ahead y e f u j h;
          });
        });
        lives = (k.links x y).lives;
      })
      (λ z _. record {
        link = λ f u. (let l = (k.links z x).link f u in record {
          from = l.from;
          other = l.other;
          target = l.target;
          open_ = λ e. ((l.open_ e).0, still from taken.stands (l.open_ e).1);
          onward = l.onward;
          ahead = λ e. apart (passes p b x m (g x).rank from (numbered count packet) rest ((k.each x).own u) taken).1 (l.ahead e).arrived;
        });
        lives = (k.links z x).lives;
      })
      moved
      (λ _ _ far i h. further far i h)
      (λ i l o. absurd (let a = l in omega arith))
      k.terminal
    where
      still : (f : Source) → items_at m f ≡ numbered count packet ∷ rest → NoEnd m.forwarded → NoEnd (forwarded_left m.forwarded f rest)
      still (uplink_tunnel teid) is h = h
      still forwarding is h = rest_no_end count packet m.forwarded rest is h

      here : (n i : ℕ) → n ≤ (g x).rank → IsAt s.station x (left from rest m es) i → Beyond b (set s.members x (left from rest m es)) g n i
      here n i l h = at_here s.station d d s.reached s.reached (omega arith) (omega arith) s.members g x (left from rest m es) n i l h

      beyond : (n i : ℕ) → n ≤ (g x).rank → Beyond b s.members g ((g x).rank + 1) i → Beyond b (set s.members x (left from rest m es)) g n i
      beyond n i l (inl h) = inl h
      beyond n i l (inr (r, o, h)) = at_far s.station d d s.reached s.reached (omega arith) (omega arith) s.members g x (left from rest m es) n i r
          (λ (e : r ≡ x). (let same_rank : (g r).rank ≡ (g x).rank = ap (λ q. (g q).rank) e in omega arith)) (omega arith) h

      goes_on : (n : ℕ) → n ≤ (g x).rank → Goes es → Beyond b (set s.members x (left from rest m es)) g n count
      goes_on n l (inl h) = inl h
      goes_on n l (inr (inl h)) = beyond n count l h
      goes_on n l (inr (inr h)) = here n count l (taken.there, inr h)

      on_tunnel : (n i : ℕ) → n ≤ (g x).rank → (i ≡ count) ⊎ IsOnTunnel (with_rest m from rest) i
          → Beyond b (set s.members x (left from rest m es)) g n i
      on_tunnel n i l (inl e) = subst (λ j. Beyond b (set s.members x (left from rest m es)) g n j) (sym e) (goes_on n l goes)
      on_tunnel n i l (inr h) = here n i l (taken.there, inl h)

      moved : (n i : ℕ) → 0 < n → n ≤ (g x).rank → IsAt s.station x m i → Beyond b (set s.members x (left from rest m es)) g n i
      moved n i z l (there, inl h) = on_tunnel n i l (was_there i count packet rest m from taken.stands h)
      moved n i z l (there, inr h) = here n i l (there, inr (h.0, more i h.1))

  -- a duplicate: it was delivered, or is stored here, and what is stored where the terminal was stands further on
  pub kept_drops : IsTaken m from (numbered count packet) rest → (count < m.bearer.receiver.deliv) ⊎ (has m.bearer.receiver.stored count ≡ true)
      → Kept p (changed s x (with_rest m from rest)) d g
  unfolding Passed
  kept_drops taken old = kept_taken m.bearer.receiver.stored taken o.holds (λ _ h. h) (goes old)
      (λ far i h. k.passed x taken.there (passes p b x m (g x).rank from (numbered count packet) rest o taken).2 far i h)
      (λ y e f u i h. (((k.links x y).link f u).ahead e).forwarded i h)
    where
      o : Own p b x m (g x).rank
      o = (k.each x).own taken.there

      goes : (count < m.bearer.receiver.deliv) ⊎ (has m.bearer.receiver.stored count ≡ true) → Goes m.bearer.receiver.stored
      goes (inl l) =
          let h = passes p b x m (g x).rank from (numbered count packet) rest o taken in
          inl (let a = o.placed.behind h.2 h.0 in omega arith)
      goes (inr h) = inr (by (either x s.station))
        where
          by : (x ≡ s.station) ⊎ (x ≢ s.station)
              → Beyond b s.members g ((g x).rank + 1) count ⊎ ((x ≡ s.station) × (has m.bearer.receiver.stored count ≡ true))
          by (inl e) = inr (e, h)
          by (inr far) =
              inl (k.passed x taken.there (passes p b x m (g x).rank from (numbered count packet) rest o taken).2 far count h)
