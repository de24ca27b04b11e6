-- A handover keeps all: the context that the terminal is at freezes, and the terminal comes to the next one.
use Rattle.std.proofs.Common.{inl, inr, ◌≡◌, ◌≢◌, ℕ, zero, suc, ◌<◌, true, false, List, ◌++◌, refl, sym, subst, ◌∙◌, true≢false, arith}
use Rattle.intervals.proofs.Intervals.{all_append}
use Rattle.unit_defs.specs.CuUpRecords.{SourceHop}
use Rattle.bearer_defs.specs.chain_defs.Models.{set}
use Rattle.bearer_defs.specs.chain_defs.Orders.{frozen}
use Rattle.law_downlink_order.proofs.chain.Frames.{apart, set_here, set_far}
use Rattle.bearer_defs.specs.uplink_defs.Models.{Member, Model}
use Rattle.bearer_defs.specs.uplink_defs.Orders.{freezes, late, after}
use Rattle.bearer_defs.specs.uplink_defs.Assumptions.{IsUnfed, IsUntouched, NoEnd}
use Rattle.bearer_defs.specs.uplink_defs.Places.{has, Stands, IsAt}
use Rattle.law_uplink_order.proofs.facts.Items.{IsRightItem, late_right, late_no_end, late_stands, no_end-ends_last, ends_last-put, no_end-put, stands-left, stands-right}
use Rattle.law_uplink_order.proofs.facts.Facts.{Ghost, View, view, Own, StationIs, out, into, Link, Passed, Kept, Good}
use Rattle.law_uplink_order.proofs.facts.Frames.{kept_one, later_same, kept_ghost}
use Rattle.law_uplink_order.proofs.facts.Contexts.{stays, not_done}

abbrev pub halted : Member → ℕ → SourceHop → Member
halted c y hop = record c {
  flags = record c.flags { frozen = true };
  bearer = frozen c.bearer (record hop { up_ended = false });
  next_hop = y;
}

-- what a target is once all that its source stores was forwarded to it
pub record Awaits (x deliv : ℕ) (stored : List (ℕ × List ℕ)) (t : Member) (h : Ghost) : Type 0 where
  pub from : h.from ≡ x
  pub ranks : t.is_there ≡ true → h.rank ≡ 0
  pub target : t.flags.target ≡ true
  pub ended : t.bearer.up_ended ≡ false
  pub no_end : NoEnd t.forwarded
  pub arrived : t.flags.arrived ≡ false
  pub keeps : t.flags.released ≡ false
  pub unknown : t.flags.may_serve ≡ false
  pub promised : t.promised ≡ deliv
  pub forwarded : (j : ℕ) → has stored j ≡ true → Stands j t.forwarded

module _ (p : ℕ → List ℕ) (s : Model) (d : ℕ) (g : ℕ → Ghost) (k : Kept p s d g) (x : ℕ) (is : x ≡ s.station) where
  abbrev source : Member
  source = s.members x

  abbrev before : View
  before = view s d

  -- a context freezes whose target is so far
  pub kept_halts : (y : ℕ) (hop : SourceHop) → y ≢ x → source.flags.may_serve ≡ true → source.flags.arrived ≡ true
      → Awaits x source.bearer.receiver.deliv source.bearer.receiver.stored (s.members y) (g y)
      → Kept p (record s { members = set s.members x (halted source y hop) }) d g
  kept_halts y hop far known arrived a = kept_one p s s d d g x (halted source y hop) k (later_same s d x)
      (record {
        own = λ there. (let o = (k.each x).own there in record {
          tunnels = o.tunnels;
          holds = record {
            right = o.holds.right;
            rises = o.holds.rises;
            handed_up = λ f. absurd (true≢false f);
            given_up = o.holds.given_up;
            unknown = o.holds.unknown;
          };
          flags = record {
            served = λ _. (known, arrived);
            leads = λ _. refl;
            thawed = λ f. absurd (true≢false f);
            ended = λ f. absurd (true≢false (sym f));
            was_there = o.flags.was_there;
          };
          placed = record { frozen = λ _ _. refl; behind = o.placed.behind };
        });
        station = (k.each x).station;
      })
      (λ f. far f.2)
      (λ z _. record {
        link = λ f u. subst (λ q. Link s.station d x (out (halted source y hop) (g x)) q (into (s.members q) (g q))) f.2 (record {
          from = a.from;
          other = far;
          target = a.target;
          open_ = λ _. (a.ended, a.no_end);
          onward = λ away. absurd (away is);
          ahead = λ _. record {
            ranks = a.ranks (subst (λ q. (s.members q).is_there ≡ true) (sym f.2) u);
            arrived = a.arrived;
            keeps = a.keeps;
            known = λ u. apart u a.unknown;
            unknown = λ _. a.promised ∙ ((k.each x).station is).known known;
            forwarded = a.forwarded;
          };
        });
        lives = λ _ _ away _ _. absurd (away is);
      })
      (λ z _. record { link = (k.links z x).link; lives = (k.links z x).lives })
      (stays p s d g k x (halted source y hop) (λ i h. h))
      (λ _ _ away _ _. absurd (away is))
      (λ i l o. absurd (let a = l in omega arith))
      k.terminal

module _ (p : ℕ → List ℕ) (s : Model) (d : ℕ) (g : ℕ → Ghost) (k : Kept p s d g) (x : ℕ) (is : x ≡ s.station) where
  abbrev m : Member
  m = s.members x

  st : StationIs d m (g x).rank
  st = (k.each x).station is

  own : Own p (view s d) x m (g x).rank
  own = (k.each x).own st.there

  -- the target gets what the source stores
  abbrev forwarded_to : ℕ → Member
  forwarded_to y = record (s.members y) {
    forwarded = (s.members y).forwarded ++ late m.bearer;
    promised = m.bearer.receiver.deliv;
  }

  abbrev fed_by : ℕ → Ghost
  fed_by y = record (g y) { from = x }

  rank_none : (n : ℕ) → (0 < n → ⊥) → n ≡ 0
  rank_none zero h = refl
  rank_none (suc n) h = absurd (h (omega arith))

  kept_forwards : (y : ℕ) → y ≢ x → IsUntouched (s.members y) → IsUnfed s y
      → Kept p (record s { members = set s.members y (forwarded_to y) }) d (set g y (fed_by y))
  unfolding NoEnd Passed
  kept_forwards y far u unfed = kept_one p s s d d h y (forwarded_to y) j (later_same s d y)
      (record {
        own = λ there. (let o = (j.each y).own there in record {
          tunnels = record {
            uplink_right = o.tunnels.uplink_right;
            uplink_last = o.tunnels.uplink_last;
            right = all_append (IsRightItem p s.reached) (s.members y).forwarded (late m.bearer) o.tunnels.right
                (late_right p s.reached m.bearer.receiver.stored own.holds.right);
            last = ends_last-put (s.members y).forwarded (late m.bearer) none
                (no_end-ends_last (late m.bearer) (late_no_end m.bearer.receiver.stored));
            over = λ e. absurd (not_done (s.members y).flags.target (s.members y).bearer.up_ended u.target u.ended e);
          };
          holds = o.holds;
          flags = o.flags;
          placed = o.placed;
        });
        station = λ e. absurd (far (e ∙ sym is));
      })
      (λ f. unfed y f)
      (λ z _. record { link = (j.links y z).link; lives = (j.links y z).lives })
      (λ z _. record { link = λ f _. absurd (unfed z f); lives = (j.links z y).lives })
      (stays p s d h j y (forwarded_to y) more)
      (j.passed y)
      (λ i l o. absurd (let a = l in omega arith))
      j.terminal
    where
      h : ℕ → Ghost
      h = set g y (fed_by y)

      j : Kept p s d (set g y (fed_by y))
      j = kept_ghost p s d g y (fed_by y) (λ _. refl) k unfed

      none : NoEnd (s.members y).forwarded
      none = subst NoEnd (sym u.forwarded) tt

      more : (i : ℕ) → IsAt s.station y (s.members y) i → IsAt s.station y (forwarded_to y) i
      more i (there, inl (inl a)) = (there, inl (inl (stands-left i (s.members y).forwarded (late m.bearer) a)))
      more i (there, inl (inr a)) = (there, inl (inr a))
      more i (there, inr a) = (there, inr a)

  pub kept_freezes : (y : ℕ) (hop : SourceHop) → m.flags.may_serve ≡ true → m.flags.arrived ≡ true → IsUntouched (s.members y)
      → IsUnfed s y → Good p (after s (freezes x y hop))
  unfolding after NoEnd
  kept_freezes y hop known arrived u unfed = (
    d,
    set g y (fed_by y),
    subst (λ c. Kept p (record s { members = set (set s.members y (forwarded_to y)) x (halted c y hop) }) d (set g y (fed_by y)))
        here
        (kept_halts p s1 d (set g y (fed_by y)) (kept_forwards y far u unfed) x is y hop far
        (subst (λ c. c.flags.may_serve ≡ true) (sym here) known) (subst (λ c. c.flags.arrived ≡ true) (sym here) arrived)
        (subst (λ c. Awaits x c.bearer.receiver.deliv c.bearer.receiver.stored (set s.members y (forwarded_to y) y) (set g y (fed_by y) y))
        (sym here)
        (subst (λ c. Awaits x m.bearer.receiver.deliv m.bearer.receiver.stored c (set g y (fed_by y) y))
        (sym (set_here s.members y (forwarded_to y)))
        (subst (λ f. Awaits x m.bearer.receiver.deliv m.bearer.receiver.stored (forwarded_to y) f) (sym (set_here g y (fed_by y))) awaits)))),
  )
    where
      far : y ≢ x
      far e = apart (subst (λ q. (s.members q).flags.may_serve ≡ true) (sym e) known) u.status

      s1 : Model
      s1 = record s { members = set s.members y (forwarded_to y) }

      here : set s.members y (forwarded_to y) x ≡ m
      here = set_far s.members y (forwarded_to y) x (λ (e : x ≡ y). far (sym e))

      never : (s.members y).is_there ≡ true → 0 < (g y).rank → ⊥
      never there pos =
          let o = (k.each y).own there in
          apart (o.flags.served (o.placed.frozen pos (λ (e : y ≡ s.station). far (e ∙ sym is)))).1 u.arrived

      awaits : Awaits x m.bearer.receiver.deliv m.bearer.receiver.stored (forwarded_to y) (fed_by y)
      awaits = record {
        from = refl;
        ranks = λ there. rank_none (g y).rank (never there);
        target = u.target;
        ended = u.ended;
        no_end = no_end-put (s.members y).forwarded (late m.bearer) (subst NoEnd (sym u.forwarded) tt)
            (late_no_end m.bearer.receiver.stored);
        arrived = u.arrived;
        keeps = u.released;
        unknown = u.status;
        promised = refl;
        forwarded = λ i h. stands-right i (s.members y).forwarded (late m.bearer) (late_stands i m.bearer.receiver.stored h);
      }
