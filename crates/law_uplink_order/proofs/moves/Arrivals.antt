-- What is carried up keeps all, and so does an arrival of the terminal at the next context.
use Rattle.std.proofs.Common.{inl, inr, ◌≡◌, ◌≢◌, ◌⊎◌, ℕ, ◌+◌, ◌<◌, ◌≤◌, max, true, false, List, [], ◌∷◌, ◌++◌, refl, sym, ap, subst, ◌∙◌, true≢false, arith}
use Rattle.std.specs.List.{AllByRecursion}
use Rattle.intervals.specs.Intervals.{HasNoGap, reach}
use Rattle.intervals.proofs.Intervals.{all_append, reach-le}
use Rattle.bearer_defs.specs.chain_defs.Models.{set}
use Rattle.law_downlink_order.proofs.chain.Frames.{set_here, set_far, put_pairs}
use Rattle.bearer_defs.specs.uplink_defs.Models.{Item, numbered, uplink_tunnel, Member, Model}
use Rattle.bearer_defs.specs.uplink_defs.Orders.{carries, arrives, after}
use Rattle.bearer_defs.specs.uplink_defs.Assumptions.{IsOpen, Feeds, NoEnd}
use Rattle.bearer_defs.specs.uplink_defs.Places.{has, Stands, IsAt}
use Rattle.law_uplink_order.proofs.facts.Items.{IsRightItem, EndsLast, ends_last-put, stands-left, stands-right, stands-first}
use Rattle.law_uplink_order.proofs.facts.Facts.{Ghost, View, view, Own, StationIs, MemberInvariant, Link, into, out, Linked, Ahead, Beyond, Passed, Radio, Kept, Good}
use Rattle.law_uplink_order.proofs.facts.Frames.{either, put_one, tunnels_later, holds_later, kept_one, at_here}
use Rattle.law_uplink_order.proofs.facts.Contexts.{feeds_not}
use Rattle.law_uplink_order.proofs.moves.Terminals.{sends_on, no_air}

counts_later : (a b : ℕ) → a ≤ b → (cs : List ℕ) → AllByRecursion (λ (c : ℕ). c < a) cs → AllByRecursion (λ (c : ℕ). c < b) cs
counts_later a b l [] h = tt
counts_later a b l (c ∷ cs) h = ((let k = h.0 in omega arith), counts_later a b l cs h.1)

module _ (p : ℕ → List ℕ) (s : Model) (d : ℕ) (g : ℕ → Ghost) (k : Kept p s d g) where
  abbrev m : Member
  m = s.members s.station

  st : StationIs d m (g s.station).rank
  st = (k.each s.station).station refl

  first_packet : (count : ℕ) (packet : List ℕ) (rest : List (ℕ × List ℕ)) → s.air ≡ (count, packet) ∷ rest
      → (count ≤ s.reached) × HasNoGap (max s.reached (count + 1)) rest
      × (reach s.reached s.air ≡ reach (max s.reached (count + 1)) rest)
      × (packet ≡ p count) × AllByRecursion (λ (e : ℕ × List ℕ). e.1 ≡ p e.0) rest
  unfolding HasNoGap reach
  first_packet count packet rest is =
      let gap : HasNoGap s.reached ((count, packet) ∷ rest) = rw is at k.terminal.radio.no_gap in
      let packets : AllByRecursion (λ (e : ℕ × List ℕ). e.1 ≡ p e.0) ((count, packet) ∷ rest) = rw is at k.terminal.radio.packets in
      (gap.0, gap.1, ap (reach s.reached) is, packets.0, packets.1)

  pub kept_carries : (teid count : ℕ) (packet : List ℕ) (rest : List (ℕ × List ℕ)) → s.air ≡ (count, packet) ∷ rest
      → IsOpen m (uplink_tunnel teid) → NoEnd (m.uplink teid) → Good p (after s (carries teid count packet rest))
  unfolding after EndsLast Passed Beyond
  kept_carries teid count packet rest is open_ no_end = (
    d,
    g,
    kept_one p s t d d g s.station c k
        (record { done = omega arith; reached = more; others = λ _ _ _. refl })
        (record {
          own = λ there. record {
            tunnels = (let u = tunnels_later s.station d d s.reached t.reached (omega arith) more p m.uplink m.forwarded _ o.tunnels in record {
              uplink_right = put_one (λ _ xs. AllByRecursion (IsRightItem p t.reached) xs) m.uplink teid items
                  (all_append (IsRightItem p t.reached) (m.uplink teid) (numbered count packet ∷ []) (u.uplink_right teid)
                  (((let a = f.0 in omega arith), f.3), tt)) (λ i _. u.uplink_right i);
              uplink_last = put_one (λ _ xs. EndsLast xs) m.uplink teid items
                  (ends_last-put (m.uplink teid) (numbered count packet ∷ []) no_end tt) (λ i _. u.uplink_last i);
              right = u.right;
              last = u.last;
              over = u.over;
            });
            holds = holds_later s.station d d s.reached t.reached (omega arith) more p _ _ _ _ _ o.holds;
            flags = o.flags;
            placed = o.placed;
          };
          station = λ _. record { there = st.there; keeps = st.keeps; ranks = st.ranks; known = st.known; unknown = st.unknown };
        })
        (feeds_not p s d g k s.station)
        (λ y _. record { link = (k.links s.station y).link; lives = (k.links s.station y).lives })
        (λ z _. record { link = (k.links z s.station).link; lives = (k.links z s.station).lives })
        (λ n i z l h. here n i l (stays i h))
        (λ _ _ far _ _. absurd (far refl))
        (λ i l u. here 1 i (let a = st.ranks in omega arith) (new i l u))
        (record {
          sends = sends_on p s.reached t.reached s.terminal.sender.next s.offered s.terminal.sender.unconfirmed s.terminal.waiting more
              (let a = r.most in let b = reach-le (max s.reached (count + 1)) rest in omega (arith, f.2)) k.terminal.sends;
          radio = record {
            no_gap = f.1;
            most = (let a = r.most in omega (arith, f.2));
            all_on_air = λ on. (let a = r.all_on_air on in omega (arith, f.2));
            packets = f.4;
            carried_are = all_append (λ (i : ℕ). i < t.reached) s.carried (count ∷ [])
                (counts_later s.reached t.reached more s.carried r.carried_are) ((omega arith), tt);
          };
          delivered_are = k.terminal.delivered_are;
          done_reached = (let a = k.terminal.done_reached in omega arith);
        }),
  )
    where
      items : List Item
      items = m.uplink teid ++ numbered count packet ∷ []

      c : Member
      c = record m { uplink = set m.uplink teid (m.uplink teid ++ numbered count packet ∷ []) }

      t : Model
      t = record s { air = rest; carried = s.carried ++ count ∷ []; reached = max s.reached (count + 1) }

      more : s.reached ≤ max s.reached (count + 1)
      more = omega arith

      o : Own p (view s d) s.station m (g s.station).rank
      o = (k.each s.station).own st.there

      r : Radio p s.reached s.terminal.sender.next s.connected s.air s.carried
      r = k.terminal.radio

      f : (count ≤ s.reached) × HasNoGap (max s.reached (count + 1)) rest
          × (reach s.reached s.air ≡ reach (max s.reached (count + 1)) rest)
          × (packet ≡ p count) × AllByRecursion (λ (e : ℕ × List ℕ). e.1 ≡ p e.0) rest
      f = first_packet count packet rest is

      here : (n i : ℕ) → n ≤ (g s.station).rank
          → IsAt s.station s.station (record m { uplink = set m.uplink teid (m.uplink teid ++ numbered count packet ∷ []) }) i
          → Beyond (record { station = s.station; done = d; reached = max s.reached (count + 1) })
          (set s.members s.station (record m { uplink = set m.uplink teid (m.uplink teid ++ numbered count packet ∷ []) })) g n i
      here n i l h = at_here s.station d d s.reached (max s.reached (count + 1)) (omega arith) (omega arith) s.members g s.station
          (record m { uplink = set m.uplink teid (m.uplink teid ++ numbered count packet ∷ []) }) n i l h

      tunnel : (i q : ℕ) → Stands i (m.uplink q) → Stands i (set m.uplink teid (m.uplink teid ++ numbered count packet ∷ []) q)
      tunnel i q = put_one (λ q xs. Stands i (m.uplink q) → Stands i xs) m.uplink teid (m.uplink teid ++ numbered count packet ∷ [])
          (stands-left i (m.uplink teid) (numbered count packet ∷ [])) (λ _ _ h. h) q

      stays : (i : ℕ) → IsAt s.station s.station m i
          → IsAt s.station s.station (record m { uplink = set m.uplink teid (m.uplink teid ++ numbered count packet ∷ []) }) i
      stays i (there, inl (inl h)) = (there, inl (inl h))
      stays i (there, inl (inr (q, u, h))) = (there, inl (inr (q, u, tunnel i q h)))
      stays i (there, inr h) = (there, inr h)

      new : (i : ℕ) → s.reached ≤ i → i < max s.reached (count + 1)
          → IsAt s.station s.station (record m { uplink = set m.uplink teid (m.uplink teid ++ numbered count packet ∷ []) }) i
      new i l u =
          let e : count ≡ i = (let a = f.0 in omega arith) in (
            st.there,
            inl (inr (
              teid,
              open_,
              subst (λ xs. Stands i xs) (sym (set_here m.uplink teid (m.uplink teid ++ numbered count packet ∷ [])))
                  (stands-right i (m.uplink teid) (numbered count packet ∷ [])
                  (subst (λ j. Stands j (numbered count packet ∷ [])) e (stands-first count packet []))),
            )),
          )

-- ---- the terminal comes to the context that the one where it is sends on to

module _ (p : ℕ → List ℕ) (s : Model) (d : ℕ) (g : ℕ → Ghost) (k : Kept p s d g) (y : ℕ) (feeds : Feeds (s.members s.station) y)
    (u : (s.members y).is_there ≡ true) where
  abbrev x : ℕ
  x = s.station

  abbrev e : Ghost
  e = record (g y) { rank = (g s.station).rank + 1 }

  abbrev h : ℕ → Ghost
  h = set g y (record (g y) { rank = (g s.station).rank + 1 })

  abbrev c : View
  c = record { station = y; done = d; reached = s.reached }

  l : Link s.station d s.station (out (s.members s.station) (g s.station)) y (into (s.members y) (g y))
  l = (k.links s.station y).link feeds u

  a : Ahead d (s.members s.station).bearer.receiver.stored (into (s.members y) (g y))
  a = l.ahead refl

  unfrozen : (s.members y).flags.frozen ≡ true → ⊥
  unfrozen f = true≢false (sym (((k.each y).own u).flags.served f).1 ∙ a.arrived)

  rank_far : (q : ℕ) → q ≢ y → (h q).rank ≡ (g q).rank
  rank_far q far = ap (λ (f : Ghost). f.rank) (set_far g y (record (g y) { rank = (g s.station).rank + 1 }) q far)

  rank_here : (h y).rank ≡ (g s.station).rank + 1
  rank_here = ap (λ (f : Ghost). f.rank) (set_here g y (record (g y) { rank = (g s.station).rank + 1 }))

  fine : (q : ℕ) → MemberInvariant p c q (s.members q) (h q).rank
  fine = put_one (λ q f. MemberInvariant p c q (s.members q) f.rank) g y (record (g y) { rank = (g s.station).rank + 1 })
      (record {
        own = λ there. (let o = (k.each y).own there in record {
          tunnels = o.tunnels;
          holds = o.holds;
          flags = record {
            served = o.flags.served;
            leads = o.flags.leads;
            thawed = o.flags.thawed;
            ended = o.flags.ended;
            was_there = λ _. omega arith;
          };
          placed = record { frozen = λ _ far. absurd (far refl); behind = λ _ v. (let n = a.known v in omega arith) };
        });
        station = λ _. record {
          there = u;
          keeps = a.keeps;
          ranks = omega arith;
          known = a.known;
          unknown = a.unknown;
        };
      })
      (λ q far. record {
        own = λ there. (let o = (k.each q).own there in record {
          tunnels = o.tunnels;
          holds = o.holds;
          flags = o.flags;
          placed = record { frozen = λ pos _. frozen q pos o (either q s.station); behind = o.placed.behind };
        });
        station = λ at. absurd (far at);
      })
    where
      frozen : (q : ℕ) → 0 < (g q).rank → Own p (view s d) q (s.members q) (g q).rank → (q ≡ s.station) ⊎ (q ≢ s.station)
          → (s.members q).flags.frozen ≡ true
      frozen q pos o (inl at) = subst (λ r. (s.members r).flags.frozen ≡ true) (sym at) feeds.1
      frozen q pos o (inr far) = o.placed.frozen pos far

  links : (q r : ℕ) → Linked c q (s.members q) (h q) r (s.members r) (h r)
  links = put_pairs (λ q _ f r _ i. Linked c q (s.members q) f r (s.members r) i) g g y (record (g y) { rank = (g s.station).rank + 1 })
      (record (g y) { rank = (g s.station).rank + 1 })
      (λ q r far_q far_r. others q r far_q far_r (either q s.station))
      (record { link = λ f _. absurd (unfrozen f.1); lives = λ _ _ far _ _. absurd (far refl) })
      (λ r _. record { link = λ f _. absurd (unfrozen f.1); lives = λ _ _ far _ _. absurd (far refl) })
      (λ q far. to_next q far (either q s.station))
    where
      others : (q r : ℕ) → q ≢ y → r ≢ y → (q ≡ s.station) ⊎ (q ≢ s.station) → Linked c q (s.members q) (g q) r (s.members r) (g r)
      others q r far_q far_r (inl at) = subst (λ z. Linked c z (s.members z) (g z) r (s.members r) (g r)) (sym at) (record {
        link = λ f _. absurd (far_r (sym f.2 ∙ feeds.2));
        lives = λ _ _ _ _ leads. absurd (far_r (sym leads ∙ feeds.2));
      })
      others q r far_q far_r (inr away) = record {
        link = λ f v. (let j = (k.links q r).link f v in record {
          from = j.from;
          other = j.other;
          target = j.target;
          open_ = j.open_;
          onward = λ _. j.onward away;
          ahead = λ at. absurd (far_q at);
        });
        lives = λ there pos _ open_ leads. (k.links q r).lives there pos away open_ leads;
      }

      to_next : (q : ℕ) → q ≢ y → (q ≡ s.station) ⊎ (q ≢ s.station)
          → Linked c q (s.members q) (g q) y (s.members y) (record (g y) { rank = (g s.station).rank + 1 })
      to_next q far (inl at) = subst
          (λ z. Linked c z (s.members z) (g z) y (s.members y) (record (g y) { rank = (g s.station).rank + 1 })) (sym at) (record {
            link = λ f v. record {
              from = l.from;
              other = l.other;
              target = l.target;
              open_ = l.open_;
              onward = λ _. omega arith;
              ahead = λ same. absurd (l.other (sym same));
            };
            lives = λ _ _ _ _ _. u;
          })
      to_next q far (inr away) = record {
        link = λ f v. absurd (away (sym ((k.links q y).link f v).from ∙ l.from));
        lives = λ _ _ _ _ _. u;
      }

  -- what was stored there stands on the tunnel to the next one
  onto : (n i : ℕ) → 0 < n → Beyond (view s d) s.members g n i → Beyond c s.members h n i
  unfolding Beyond
  onto n i z (inl done) = inl done
  onto n i z (inr (r, rank, at)) = by (either r y)
    where
      next : n ≤ (g s.station).rank + 1 → has (s.members s.station).bearer.receiver.stored i ≡ true → Beyond c s.members h n i
      next o v = inr (y, subst (λ q. n ≤ q) (sym rank_here) o, (u, inl (inl (a.forwarded i v))))

      far_by : r ≢ y → IsAt s.station r (s.members r) i → Beyond c s.members h n i
      far_by far (there, inl v) = inr (r, subst (λ q. n ≤ q) (sym (rank_far r far)) rank, (there, inl v))
      far_by far (there, inr v) =
          next (let e : (g r).rank ≡ (g s.station).rank = ap (λ q. (g q).rank) v.0 in omega arith)
          (subst (λ q. has (s.members q).bearer.receiver.stored i ≡ true) v.0 v.1)

      by : (r ≡ y) ⊎ (r ≢ y) → Beyond c s.members h n i
      by (inl is) = absurd (let b : (g r).rank ≡ (g y).rank = ap (λ q. (g q).rank) is in let o = a.ranks in omega arith)
      by (inr far) = far_by far at

  pub kept_arrives : Good p (after s (arrives y))
  unfolding after Passed Beyond
  kept_arrives = (
    d,
    h,
    record {
      each = fine;
      links = links;
      net = λ i below. onto 1 i (omega arith) (k.net i below);
      passed = λ q there pos far i v.
          (let same_rank = rank_far q far in
          subst (λ n. Beyond c s.members h (n + 1) i) (sym same_rank)
          (stored q there (subst (λ n. 0 < n) same_rank pos) i v (either q s.station)));
      terminal = record {
        sends = k.terminal.sends;
        radio = no_air p s.reached s.terminal.sender.next false k.terminal.sends.reached_next refl;
        delivered_are = k.terminal.delivered_are;
        done_reached = k.terminal.done_reached;
      };
    },
  )
    where
      stored : (q : ℕ) → (s.members q).is_there ≡ true → 0 < (g q).rank → (i : ℕ)
          → has (s.members q).bearer.receiver.stored i ≡ true → (q ≡ s.station) ⊎ (q ≢ s.station) → Beyond c s.members h ((g q).rank + 1) i
      stored q there pos i v (inl at) = inr (
        y,
        (let b : (g q).rank ≡ (g s.station).rank = ap (λ r. (g r).rank) at in let o = rank_here in omega arith),
        (u, inl (inl (a.forwarded i (subst (λ r. has (s.members r).bearer.receiver.stored i ≡ true) at v)))),
      )
      stored q there pos i v (inr away) = onto ((g q).rank + 1) i (omega arith) (k.passed q there pos away i v)
