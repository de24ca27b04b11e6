-- The End Markers of the uplink tunnels and of the hop keep all: nothing stands after one, and the one that goes on comes last.
use Rattle.std.proofs.Common.{inl, inr, ◌≡◌, ◌≢◌, ◌⊎◌, ℕ, Bool, true, false, not, ◌&&◌, ◌||◌, ◌==◌, List, [], ◌∷◌, filter, cond, Option, Some, None, refl, sym, ap, subst, ◌∙◌, true≢false, eqb-true, arith}
use Rattle.std.specs.List.{AllByRecursion}
use Rattle.unit_defs.specs.CuUpRecords.{SourceHop}
use Rattle.unit_defs.specs.CuUpBearers.{is_one_of, no_uplink}
use Rattle.bearer_defs.specs.chain_defs.Models.{set}
use Rattle.law_downlink_order.proofs.chain.Frames.{apart, set_here, set_far}
use Rattle.bearer_defs.specs.uplink_defs.Models.{Item, end_marker, uplink_tunnel, forwarding, Member, Model}
use Rattle.bearer_defs.specs.uplink_defs.Orders.{ends_uplink, ends_hop, is_up_over, ended_if, ended_at, put_on, passed, after}
use Rattle.bearer_defs.specs.uplink_defs.Assumptions.{IsTaken, NoEnd}
use Rattle.bearer_defs.specs.uplink_defs.Places.{Stands, IsOnTunnel, IsAt}
use Rattle.law_uplink_order.proofs.facts.Items.{IsRightItem, NoData, EndsLast, no_data-put, no_data-stands, no_data-ends_last, ends_last-end, rest_no_data, rest_right, end_is_there, stands-end}
use Rattle.law_uplink_order.proofs.facts.Facts.{Ghost, View, view, is_ended, Tunnels, Own, Passed, Kept, Good}
use Rattle.law_uplink_order.proofs.facts.Frames.{either, put_one, kept_one, later_same}
use Rattle.law_uplink_order.proofs.facts.Contexts.{feeds_not, stays}
use Rattle.law_uplink_order.proofs.takes.Takes.{kept_put, passes}

-- a tunnel that is closed is no longer open, and others stay so
open_after : (uplinks : List ℕ) (teid t : ℕ) → t ≢ teid → is_one_of uplinks t ≡ true
    → is_one_of (filter (λ u. not (u == teid)) uplinks) t ≡ true
open_after [] teid t far h = h
open_after (u ∷ us) teid t far h = by (open_after us teid t far) (u == teid) (u == t) refl refl h
  where
    by : (is_one_of us t ≡ true → is_one_of (filter (λ v. not (v == teid)) us) t ≡ true) → (c e : Bool) → (u == teid) ≡ c → (u == t) ≡ e
        → (e || is_one_of us t) ≡ true
        → is_one_of (cond (not c) (u ∷ filter (λ v. not (v == teid)) us) (filter (λ v. not (v == teid)) us)) t ≡ true
    by rest true true c e h = absurd (far (sym (eqb-true u t e) ∙ eqb-true u teid c))
    by rest true false c e h = rest h
    by rest false true c e h = ap (λ v. v || is_one_of (filter (λ w. not (w == teid)) us) t) e
    by rest false false c e h = ap (λ v. v || is_one_of (filter (λ w. not (w == teid)) us) t) e ∙ rest h

none_after : (uplinks : List ℕ) (teid : ℕ) → no_uplink uplinks ≡ true → no_uplink (filter (λ u. not (u == teid)) uplinks) ≡ true
none_after [] teid h = h
none_after (u ∷ us) teid h = absurd (true≢false (sym h))

module _ (p : ℕ → List ℕ) (s : Model) (d : ℕ) (g : ℕ → Ghost) (k : Kept p s d g) (x : ℕ) where
  abbrev m : Member
  m = s.members x

  abbrev b : View
  b = view s d

  -- a context whose tunnels and hop are these now
  abbrev pub closer : (ℕ → List Item) → List Item → List ℕ → Bool → Option SourceHop → Member
  closer uplink forwarded uplinks up_ended hop = record m {
    uplink = uplink;
    forwarded = forwarded;
    bearer = record m.bearer { uplinks = uplinks; up_ended = up_ended; hop = hop };
  }

  pub record Closes (uplink : ℕ → List Item) (forwarded : List Item) (uplinks : List ℕ) (up_ended : Bool) (hop : Option SourceHop) : Type 0 where
    pub there : m.is_there ≡ true
    pub tunnels : Tunnels p s.reached uplink forwarded (not m.flags.target || up_ended)
    pub thawed : m.flags.frozen ≡ false → hop ≡ None
    pub ended : is_ended hop ≡ true → (no_uplink uplinks ≡ true) × ((not m.flags.target || up_ended) ≡ true)
    pub before : is_ended hop ≡ false → is_ended m.bearer.hop ≡ false
    -- who feeds it and hasn't ended sees no end
    pub fed : m.bearer.up_ended ≡ false → NoEnd m.forwarded → (up_ended ≡ false) × NoEnd forwarded
    pub arrived : m.flags.arrived ≡ true
    pub moved : (i : ℕ) → IsOnTunnel m i → IsOnTunnel (closer uplink forwarded uplinks up_ended hop) i

  pub kept_closer : (uplink : ℕ → List Item) (forwarded : List Item) (uplinks : List ℕ) (up_ended : Bool) (hop : Option SourceHop)
      → Closes uplink forwarded uplinks up_ended hop
      → Kept p (record s { members = set s.members x (closer uplink forwarded uplinks up_ended hop) }) d g
  unfolding Passed
  kept_closer uplink forwarded uplinks up_ended hop c = kept_one p s s d d g x (closer uplink forwarded uplinks up_ended hop) k
      (later_same s d x)
      (record {
        own = λ there. (let o = (k.each x).own there in record {
          tunnels = c.tunnels;
          holds = o.holds;
          flags = record {
            served = o.flags.served;
            leads = o.flags.leads;
            thawed = c.thawed;
            ended = c.ended;
            was_there = o.flags.was_there;
          };
          placed = o.placed;
        });
        station = (k.each x).station;
      })
      (feeds_not p s d g k x)
      (λ y _. record {
        link = λ f u. (let l = (k.links x y).link f u in record {
          from = l.from;
          other = l.other;
          target = l.target;
          open_ = λ e. l.open_ (c.before e);
          onward = l.onward;
          ahead = l.ahead;
        });
        lives = λ there pos far e. (k.links x y).lives there pos far (c.before e);
      })
      (λ z _. record {
        link = λ f u. (let l = (k.links z x).link f u in record {
          from = l.from;
          other = l.other;
          target = l.target;
          open_ = λ e. (let o = l.open_ e in c.fed o.0 o.1);
          onward = l.onward;
          ahead = λ e. apart c.arrived (l.ahead e).arrived;
        });
        lives = (k.links z x).lives;
      })
      (stays p s d g k x (closer uplink forwarded uplinks up_ended hop) more)
      (k.passed x)
      (λ i l o. absurd (let a = l in omega arith))
      k.terminal
    where
      more : (i : ℕ) → IsAt s.station x m i → IsAt s.station x (closer uplink forwarded uplinks up_ended hop) i
      more i (there, inl h) = (there, inl (c.moved i h))
      more i (there, inr h) = (there, inr h)

-- the End Marker goes on, after all else
module _ (p : ℕ → List ℕ) (s : Model) (d : ℕ) (g : ℕ → Ghost) (k : Kept p s d g) (x : ℕ) where
  put_end : (s.members x).is_there ≡ true → (s.members x).flags.frozen ≡ true → is_ended (s.members x).bearer.hop ≡ true
      → Kept p (put_on s (s.members x).next_hop (end_marker ∷ [])) d g
  put_end there frozen ended = kept_put p s d g k (s.members x).next_hop (end_marker ∷ []) (tt, tt)
      (λ u. ends_last-end (s.members (s.members x).next_hop).forwarded ((k.each (s.members x).next_hop).own u).tunnels.last)
      (λ u e. no_data-put (s.members (s.members x).next_hop).forwarded (((k.each (s.members x).next_hop).own u).tunnels.over e))
      (λ z f u e. absurd (true≢false (sym (subst (λ q. is_ended (s.members q).bearer.hop ≡ true)
      (sym ((k.links x (s.members x).next_hop).link (there, frozen, refl) u).from
      ∙ ((k.links z (s.members x).next_hop).link f u).from) ended) ∙ e)))

-- both, where all has ended
module _ (p : ℕ → List ℕ) (s : Model) (d : ℕ) (g : ℕ → Ghost) (k : Kept p s d g) (x : ℕ) (uplink : ℕ → List Item) (forwarded : List Item)
    (uplinks : List ℕ) (up_ended : Bool) where
  abbrev now : Option SourceHop → Member
  now hop = closer p s d g k x uplink forwarded uplinks up_ended hop

  over_is : (a b c : Bool) → (a && b && c) ≡ true → (b ≡ true) × (c ≡ true)
  over_is true true true h = (refl, refl)
  over_is true true false h = absurd (true≢false (sym h))
  over_is true false c h = absurd (true≢false (sym h))
  over_is false b c h = absurd (true≢false (sym h))

  pub kept_ended : Closes p s d g k x uplink forwarded uplinks up_ended (s.members x).bearer.hop
      → Good p (ended_at s x (now (s.members x).bearer.hop) (s.members x).bearer.hop)
  kept_ended c = by (s.members x).bearer.hop refl c
    where
      frozen_by : (f : Bool) → (s.members x).flags.frozen ≡ f → (hop : SourceHop)
          → Closes p s d g k x uplink forwarded uplinks up_ended (Some hop) → (s.members x).flags.frozen ≡ true
      frozen_by true is hop c = is
      frozen_by false is hop c = let e : Some hop ≡ None = c.thawed is in absurd cc

      goes_on : (hop : SourceHop) → (s.members x).bearer.hop ≡ Some hop → Closes p s d g k x uplink forwarded uplinks up_ended (Some hop)
          → is_up_over (now (Some hop)) hop ≡ true
          → Kept p (passed s x (now (Some (record hop { up_ended = true }))) (end_marker ∷ [])) d g
      goes_on hop is c over =
          let done = over_is (not hop.up_ended) (no_uplink uplinks) (not (s.members x).flags.target || up_ended) over in
          let m : Member = now (Some (record hop { up_ended = true })) in
          let frozen = frozen_by (s.members x).flags.frozen refl hop c in
          let one : Kept p (record s { members = set s.members x m }) d g =
          kept_closer p s d g k x uplink forwarded uplinks up_ended (Some (record hop { up_ended = true })) (record {
            there = c.there;
            tunnels = c.tunnels;
            thawed = λ e. apart frozen e;
            ended = λ _. done;
            before = λ e. absurd (true≢false e);
            fed = c.fed;
            arrived = c.arrived;
            moved = c.moved;
          }) in
          let here : set s.members x m x ≡ m = set_here s.members x m in
          subst (λ q. Kept p (put_on (record s { members = set s.members x m }) q (end_marker ∷ [])) d g)
          (ap (λ (t : Member). t.next_hop) here)
          (put_end p (record s { members = set s.members x m }) d g one x (subst (λ t. t.is_there ≡ true) (sym here) c.there)
          (subst (λ t. t.flags.frozen ≡ true) (sym here) frozen) (subst (λ t. is_ended t.bearer.hop ≡ true) (sym here) refl))

      if_over : (hop : SourceHop) → (s.members x).bearer.hop ≡ Some hop → Closes p s d g k x uplink forwarded uplinks up_ended (Some hop)
          → (t : Bool) → is_up_over (now (Some hop)) hop ≡ t → Good p (ended_if s x (now (Some hop)) hop t)
      if_over hop is c true over = (d, g, goes_on hop is c over)
      if_over hop is c false over = (d, g, kept_closer p s d g k x uplink forwarded uplinks up_ended (Some hop) c)

      by : (hop : Option SourceHop) → (s.members x).bearer.hop ≡ hop → Closes p s d g k x uplink forwarded uplinks up_ended hop
          → Good p (ended_at s x (now hop) hop)
      by None is c = (d, g, kept_closer p s d g k x uplink forwarded uplinks up_ended None c)
      by (Some hop) is c = if_over hop is c (is_up_over (now (Some hop)) hop) refl

module _ (p : ℕ → List ℕ) (s : Model) (d : ℕ) (g : ℕ → Ghost) (k : Kept p s d g) (x : ℕ) where
  abbrev c : Member
  c = s.members x

  pub kept_ends_uplink : (teid : ℕ) (rest : List Item) → IsTaken c (uplink_tunnel teid) end_marker rest
      → Good p (after s (ends_uplink x teid rest))
  unfolding after
  kept_ends_uplink teid rest taken =
      kept_ended p s d g k x (set c.uplink teid rest) c.forwarded (filter (λ t. not (t == teid)) c.bearer.uplinks) c.bearer.up_ended (record {
        there = taken.there;
        tunnels = record {
          uplink_right = put_one (λ _ xs. AllByRecursion (IsRightItem p s.reached) xs) c.uplink teid rest
              (rest_right p s.reached (c.uplink teid) rest taken.stands (o.tunnels.uplink_right teid)) (λ t _. o.tunnels.uplink_right t);
          uplink_last = put_one (λ _ xs. EndsLast xs) c.uplink teid rest (no_data-ends_last rest none) (λ t _. o.tunnels.uplink_last t);
          right = o.tunnels.right;
          last = o.tunnels.last;
          over = o.tunnels.over;
        };
        thawed = o.flags.thawed;
        ended = λ e. (none_after c.bearer.uplinks teid (o.flags.ended e).0, (o.flags.ended e).1);
        before = λ e. e;
        fed = λ u e. (u, e);
        arrived = (passes p (view s d) x c (g x).rank (uplink_tunnel teid) end_marker rest o taken).1;
        moved = moved;
      })
    where
      o : Own p (view s d) x c (g x).rank
      o = (k.each x).own taken.there

      none : NoData rest
      none = rest_no_data (c.uplink teid) rest taken.stands (o.tunnels.uplink_last teid)

      moved : (i : ℕ) → IsOnTunnel c i → IsOnTunnel
          (closer p s d g k x (set c.uplink teid rest) c.forwarded (filter (λ t. not (t == teid)) c.bearer.uplinks) c.bearer.up_ended
          c.bearer.hop) i
      moved i (inl h) = inl h
      moved i (inr (t, open_, h)) = by (either t teid)
        where
          by : (t ≡ teid) ⊎ (t ≢ teid) → IsOnTunnel
              (closer p s d g k x (set c.uplink teid rest) c.forwarded (filter (λ t. not (t == teid)) c.bearer.uplinks) c.bearer.up_ended
              c.bearer.hop) i
          by (inl e) = absurd (no_data-stands i rest none
              (stands-end i (c.uplink teid) rest taken.stands (subst (λ q. Stands i (c.uplink q)) e h)))
          by (inr far) = inr (t, open_after c.bearer.uplinks teid t far open_, subst (λ xs. Stands i xs) (sym (set_far c.uplink teid rest t far)) h)

  pub kept_ends_hop : (rest : List Item) → IsTaken c forwarding end_marker rest → Good p (after s (ends_hop x rest))
  unfolding after
  kept_ends_hop rest taken = kept_ended p s d g k x c.uplink rest c.bearer.uplinks true (record {
    there = taken.there;
    tunnels = record {
      uplink_right = o.tunnels.uplink_right;
      uplink_last = o.tunnels.uplink_last;
      right = rest_right p s.reached c.forwarded rest taken.stands o.tunnels.right;
      last = no_data-ends_last rest none;
      over = λ _. none;
    };
    thawed = o.flags.thawed;
    ended = λ e. ((o.flags.ended e).0, done c.flags.target);
    before = λ e. e;
    fed = λ u e. absurd (end_is_there c.forwarded rest taken.stands e);
    arrived = (passes p (view s d) x c (g x).rank forwarding end_marker rest o taken).1;
    moved = moved;
  })
    where
      o : Own p (view s d) x c (g x).rank
      o = (k.each x).own taken.there

      none : NoData rest
      none = rest_no_data c.forwarded rest taken.stands o.tunnels.last

      done : (t : Bool) → (not t || true) ≡ true
      done true = refl
      done false = refl

      moved : (i : ℕ) → IsOnTunnel c i → IsOnTunnel (closer p s d g k x c.uplink rest c.bearer.uplinks true c.bearer.hop) i
      moved i (inl h) = absurd (no_data-stands i rest none (stands-end i c.forwarded rest taken.stands h))
      moved i (inr h) = inr h
