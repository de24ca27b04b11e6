-- What a frozen or a released context takes goes on to the next one.
use Rattle.std.proofs.Common.{inl, inr, ◌≡◌, ◌≢◌, ◌⊎◌, ℕ, ◌+◌, ◌<◌, ◌==◌, Bool, true, false, if◌then◌else◌, List, [], ◌∷◌, refl, sym, ap, subst, ◌∙◌, eqb-true, arith}
use Rattle.std.specs.Ordering.{nat_cmp}
use Rattle.tables.specs.Tables.{put}
use Rattle.pdcp_defs.specs.Receivers.{is_duplicate, stored}
use Rattle.bearer_defs.specs.chain_defs.Models.{set}
use Rattle.law_downlink_order.proofs.chain.Frames.{apart, set_here, set_far}
use Rattle.bearer_defs.specs.uplink_defs.Models.{Item, numbered, Source, Member, Model, with_rest}
use Rattle.bearer_defs.specs.uplink_defs.Orders.{stores, is_hop_up_done, put_on, passed}
use Rattle.bearer_defs.specs.uplink_defs.Assumptions.{IsTaken, Feeds, NoEnd}
use Rattle.bearer_defs.specs.uplink_defs.Places.{has, Stands}
use Rattle.law_uplink_order.proofs.facts.Items.{EndsLast, ends_last-put, no_end-put, stands-left, stands-right, stands-first}
use Rattle.law_uplink_order.proofs.facts.Receivers.{rises_put, right_put, has_more, has_new, has_either, is_new}
use Rattle.law_uplink_order.proofs.facts.Facts.{Ghost, View, view, is_ended, Holds, Own, Link, into, out, Beyond, Passed, Kept}
use Rattle.law_uplink_order.proofs.facts.Frames.{either, at_here}
use Rattle.law_uplink_order.proofs.facts.Contexts.{feeds_not, not_done}
use Rattle.law_uplink_order.proofs.takes.Takes.{with_more, kept_put, taken_right, not_ended, passes, Goes, left, IsTakenAt, kept_taken}

-- two places of a function, in either order
set_swap : {X : Type 0} (f : ℕ → X) (x : ℕ) (a : X) (y : ℕ) (b : X) → y ≢ x → set (set f x a) y b ≡ set (set f y b) x a
set_swap f x a y b far i q = swapped q i
  where
    by : (q : ℕ) (t u : Bool) → (q == y) ≡ t → (q == x) ≡ u
        → (if t then b else (if u then a else f q)) ≡ (if u then a else (if t then b else f q))
    by q true true e h = absurd (far (sym (eqb-true q y e) ∙ eqb-true q x h))
    by q true false e h = refl
    by q false true e h = refl
    by q false false e h = refl

    swapped : (q : ℕ) → set (set f x a) y b q ≡ set (set f y b) x a q
    swapped q = by q (q == y) (q == x) refl refl

put_first : (f : ℕ → Member) (x : ℕ) (a : Member) (y : ℕ) (items : List Item) → y ≢ x
    → set (set f y (with_more (f y) items)) x a ≡ set (set f x a) y (with_more (set f x a y) items)
put_first f x a y items far =
    sym (ap (λ c. set (set f x a) y (with_more c items)) (set_far f x a y far) ∙ set_swap f x a y (with_more (f y) items) far)

module _ (p : ℕ → List ℕ) (s : Model) (d : ℕ) (g : ℕ → Ghost) (k : Kept p s d g) (x : ℕ) (from : Source) (count : ℕ) (packet : List ℕ)
    (rest : List Item) (taken : IsTaken (s.members x) from (numbered count packet) rest) (frozen : (s.members x).flags.frozen ≡ true) where
  abbrev m : Member
  m = s.members x

  abbrev b : View
  b = view s d

  abbrev y : ℕ
  y = m.next_hop

  abbrev t : Member
  t = s.members m.next_hop

  abbrev items : List Item
  items = numbered count packet ∷ []

  abbrev s1 : Model
  s1 = put_on s m.next_hop items

  o : Own p b x m (g x).rank
  o = (k.each x).own taken.there

  open_ : is_ended m.bearer.hop ≡ false
  open_ = not_ended p b x m (g x).rank from count packet rest o taken

  pos : (m.flags.may_serve ≡ true) × (m.flags.arrived ≡ true) × (0 < (g x).rank)
  pos = passes p b x m (g x).rank from (numbered count packet) rest o taken

  link : t.is_there ≡ true → Link s.station d x (out m (g x)) m.next_hop (into t (g m.next_hop))
  link u = (k.links x m.next_hop).link (taken.there, frozen, refl) u

  far : m.next_hop ≢ x
  far e = feeds_not p s d g k x (taken.there, frozen, e)

  k1 : Kept p s1 d g
  unfolding EndsLast NoEnd
  k1 = kept_put p s d g k m.next_hop items
      (taken_right p s.reached m.uplink m.forwarded (is_hop_up_done m.flags m.bearer) count packet rest o.tunnels from taken.stands, tt)
      (λ u. ends_last-put t.forwarded items ((link u).open_ open_).1 tt)
      (λ u done. absurd (not_done t.flags.target t.bearer.up_ended (link u).target ((link u).open_ open_).0 done))
      (λ z f u e. no_end-put t.forwarded items ((link u).open_ open_).1 tt)

  here : s1.members x ≡ m
  here = set_far s.members m.next_hop (with_more t items) x (λ (e : x ≡ m.next_hop). far (sym e))

  next : s1.members m.next_hop ≡ with_more t items
  next = set_here s.members m.next_hop (with_more t items)

  -- the packet stands at the next one
  beyond : x ≢ s.station → Beyond b s1.members g ((g x).rank + 1) count
  beyond away =
      let u = (k.links x m.next_hop).lives taken.there pos.2 away open_ refl in
      let l = (link u).onward away in
      at_here s.station d d s.reached s.reached (omega arith) (omega arith) s.members g m.next_hop (with_more t items) ((g x).rank + 1) count
      (omega arith) (u, inl (inl (stands-right count t.forwarded items (stands-first count packet []))))

  kept_relay : (es : List (ℕ × List ℕ))
      → Holds p s.reached m.flags.frozen m.flags.released m.flags.may_serve m.bearer.receiver.deliv es
      → ((i : ℕ) → has m.bearer.receiver.stored i ≡ true → has es i ≡ true)
      → ((i : ℕ) → has es i ≡ true → (i ≡ count) ⊎ (has m.bearer.receiver.stored i ≡ true))
      → (x ≡ s.station → has es count ≡ true)
      → Kept p (passed s x (left from rest m es) items) d g
  unfolding Passed
  kept_relay es holds more new at_station =
      subst (λ ms. Kept p (record s { members = ms }) d g)
      (put_first s.members x (left from rest m es) m.next_hop items far)
      (subst (λ c. IsTakenAt p s1 d g k1 x from count packet rest c es) here (kept_taken p s1 d g k1 x from count packet rest es)
      taken holds more goes further ahead)
    where
      goes : Goes p s1 d g k1 x from count packet rest es
      goes = inr (by (either x s.station))
        where
          by : (x ≡ s.station) ⊎ (x ≢ s.station) → Beyond b s1.members g ((g x).rank + 1) count ⊎ ((x ≡ s.station) × (has es count ≡ true))
          by (inl e) = inr (e, at_station e)
          by (inr away) = inl (beyond away)

      passed_before : Passed b s1.members g x m (g x).rank
      passed_before = subst (λ c. Passed b s1.members g x c (g x).rank) here (k1.passed x)

      further : x ≢ s.station → (i : ℕ) → has es i ≡ true → Beyond b s1.members g ((g x).rank + 1) i
      further away i h = by (new i h)
        where
          by : (i ≡ count) ⊎ (has m.bearer.receiver.stored i ≡ true) → Beyond b s1.members g ((g x).rank + 1) i
          by (inl e) = subst (λ j. Beyond b s1.members g ((g x).rank + 1) j) (sym e) (beyond away)
          by (inr old) = passed_before taken.there pos.2 away i old

      stands : x ≡ s.station → t.is_there ≡ true → (i : ℕ) → has es i ≡ true → Stands i (with_more t items).forwarded
      stands e u i h = by (new i h)
        where
          by : (i ≡ count) ⊎ (has m.bearer.receiver.stored i ≡ true) → Stands i (with_more t items).forwarded
          by (inl is) = subst (λ j. Stands j (with_more t items).forwarded) (sym is)
              (stands-right count t.forwarded items (stands-first count packet []))
          by (inr old) = stands-left i t.forwarded items (((link u).ahead e).forwarded i old)

      ahead : (z : ℕ) → x ≡ s.station → Feeds m z → (s1.members z).is_there ≡ true → (i : ℕ) → has es i ≡ true
          → Stands i (s1.members z).forwarded
      ahead z e f u i h = subst (λ q. (s1.members q).is_there ≡ true → Stands i (s1.members q).forwarded) f.2
          (subst (λ c. c.is_there ≡ true → Stands i c.forwarded) (sym next) (λ v. stands e v i h)) u

  -- a frozen context stores what is new
  pub kept_relays : m.flags.released ≡ false → is_duplicate m.bearer.receiver count ≡ false
      → Kept p (passed s x (stores (with_rest m from rest) count packet) items) d g
  unfolding stored
  kept_relays keeps fresh =
      let n = is_new m.bearer.receiver count fresh in
      let r = taken_right p s.reached m.uplink m.forwarded (is_hop_up_done m.flags m.bearer) count packet rest o.tunnels from taken.stands in
      kept_relay (put nat_cmp m.bearer.receiver.stored count packet)
      (record {
        right = right_put p s.reached count packet m.bearer.receiver.stored r o.holds.right;
        rises = rises_put m.bearer.receiver.deliv count packet m.bearer.receiver.stored n.0 o.holds.rises;
        handed_up = λ e. apart frozen e;
        given_up = λ e. apart e keeps;
        unknown = λ e. apart pos.0 e;
      })
      (λ i h. has_more count i packet m.bearer.receiver.stored h)
      (λ i h. has_either count i packet m.bearer.receiver.stored h)
      (λ _. has_new count packet m.bearer.receiver.stored)

  -- a released one stores nothing
  pub kept_passes : m.flags.released ≡ true → Kept p (passed s x (with_rest m from rest) items) d g
  kept_passes released = kept_relay m.bearer.receiver.stored o.holds (λ _ h. h) (λ _ h. inr h)
      (λ e. apart released ((k.each x).station e).keeps)
