-- One context changes; all others stay, also while more is delivered and carried up.
use Rattle.std.proofs.Common.{inl, inr, ◌≡◌, ◌≢◌, ◌⊎◌, ℕ, ◌+◌, ◌<◌, ◌≤◌, ◌==◌, nat_lt, Bool, true, false, List, refl, sym, subst, ◌∙◌, eqb-true, arith}
use Rattle.bearer_defs.specs.chain_defs.Models.{set}
use Rattle.law_downlink_order.proofs.chain.Frames.{apart, same, set_here, set_far, put_each, put_pairs}
use Rattle.bearer_defs.specs.uplink_defs.Models.{Item, Member, Model}
use Rattle.bearer_defs.specs.uplink_defs.Assumptions.{Feeds, IsUnfed}
use Rattle.bearer_defs.specs.uplink_defs.Places.{has, IsAt}
use Rattle.law_uplink_order.proofs.facts.Items.{right_later, items_later}
use Rattle.law_uplink_order.proofs.facts.Facts.{Ghost, View, view, is_ended, Tunnels, Holds, Own, StationIs, MemberInvariant, into, Link, Linked, Ahead, Beyond, Passed, Sends, Radio, Terminal, Kept}

pub either : (q x : ℕ) → (q ≡ x) ⊎ (q ≢ x)
either q x = by (q == x) refl
  where
    by : (t : Bool) → (q == x) ≡ t → (q ≡ x) ⊎ (q ≢ x)
    by true e = inl (eqb-true q x e)
    by false e = inr (λ (k : q ≡ x). apart (same q x k) e)

pub put_one : {X : Type 0} (P : ℕ → X → Type 0) (cs : ℕ → X) (x : ℕ) (c : X) → P x c → ((q : ℕ) → q ≢ x → P q (cs q))
    → (q : ℕ) → P q (set cs x c q)
put_one P cs x c here far q = put_each (λ i m _. P i m) cs cs x c c here far q

-- ---- facts stay

module _ (station d e m n : ℕ) (more : d ≤ e) (on : m ≤ n) where
  abbrev old : View
  old = record { station = station; done = d; reached = m }

  abbrev new : View
  new = record { station = station; done = e; reached = n }

  pub tunnels_later : (p : ℕ → List ℕ) (uplink : ℕ → List Item) (forwarded : List Item) (is_done : Bool)
      → Tunnels p m uplink forwarded is_done → Tunnels p n uplink forwarded is_done
  tunnels_later p uplink forwarded is_done t = record {
    uplink_right = λ teid. items_later p m n on (uplink teid) (t.uplink_right teid);
    uplink_last = t.uplink_last;
    right = items_later p m n on forwarded t.right;
    last = t.last;
    over = t.over;
  }

  pub holds_later : (p : ℕ → List ℕ) (is_frozen is_released is_known : Bool) (deliv : ℕ) (stored : List (ℕ × List ℕ))
      → Holds p m is_frozen is_released is_known deliv stored → Holds p n is_frozen is_released is_known deliv stored
  holds_later p is_frozen is_released is_known deliv stored h = record {
    right = right_later p m n on stored h.right;
    rises = h.rises;
    handed_up = h.handed_up;
    given_up = h.given_up;
    unknown = h.unknown;
  }

  pub fine_later : (p : ℕ → List ℕ) (q : ℕ) (c : Member) (rank : ℕ) → (q ≡ station → d ≡ e) → MemberInvariant p old q c rank → MemberInvariant p new q c rank
  fine_later p q c rank agree f = record {
    own = λ there. (let o = f.own there in record {
      tunnels = tunnels_later p c.uplink c.forwarded _ o.tunnels;
      holds = holds_later p _ _ _ _ _ o.holds;
      flags = o.flags;
      placed = record { frozen = o.placed.frozen; behind = λ r k. (let l = o.placed.behind r k in omega arith) };
    });
    station = λ is. (let k = f.station is in record {
      there = k.there;
      keeps = k.keeps;
      ranks = k.ranks;
      known = λ u. k.known u ∙ agree is;
      unknown = λ u. k.unknown u ∙ agree is;
    });
  }

  pub linked_later : (x : ℕ) (c : Member) (g : Ghost) (y : ℕ) (t : Member) (h : Ghost) → (x ≡ station → d ≡ e) → Linked old x c g y t h
      → Linked new x c g y t h
  linked_later x c g y t h agree k = record {
    link = λ f u. (let l = k.link f u in record {
      from = l.from;
      other = l.other;
      target = l.target;
      open_ = l.open_;
      onward = l.onward;
      ahead = λ is. subst (λ i. Ahead i c.bearer.receiver.stored (into t h)) (agree is) (l.ahead is);
    });
    lives = k.lives;
  }

  -- ---- what is on its way stays so

  module _ (cs : ℕ → Member) (g : ℕ → Ghost) (x : ℕ) (c : Member) where
    pub at_here : (k i : ℕ) → k ≤ (g x).rank → IsAt station x c i → Beyond new (set cs x c) g k i
    unfolding Beyond
    at_here k i l h = inr (x, l, subst (λ t. IsAt station x t i) (sym (set_here cs x c)) h)

    pub at_far : (k i r : ℕ) → r ≢ x → k ≤ (g r).rank → IsAt station r (cs r) i → Beyond new (set cs x c) g k i
    unfolding Beyond
    at_far k i r far l h = inr (r, l, subst (λ t. IsAt station r t i) (sym (set_far cs x c r far)) h)

    pub onto_one : ((k i : ℕ) → 0 < k → k ≤ (g x).rank → IsAt station x (cs x) i → Beyond new (set cs x c) g k i)
        → (k i : ℕ) → 0 < k → Beyond old cs g k i → Beyond new (set cs x c) g k i
    unfolding Beyond
    onto_one here k i z (inl l) = inl (omega arith)
    onto_one here k i z (inr (r, l, h)) = by (either r x)
      where
        by : (r ≡ x) ⊎ (r ≢ x) → Beyond new (set cs x c) g k i
        by (inl is) = here k i z (subst (λ q. k ≤ (g q).rank) is l) (subst (λ q. IsAt station q (cs q) i) is h)
        by (inr far) = at_far k i r far l h

-- ---- one context changes

pub record Later (s t : Model) (d e x : ℕ) : Type 0 where
  pub done : d ≤ e
  pub reached : s.reached ≤ t.reached
  pub others : (q : ℕ) → q ≢ x → q ≡ s.station → d ≡ e

pub later_same : (s : Model) (d x : ℕ) → Later s s d d x
later_same s d x = record { done = omega arith; reached = omega arith; others = λ _ _ _. refl }

module _ (p : ℕ → List ℕ) (s t : Model) (d e : ℕ) (g : ℕ → Ghost) (x : ℕ) (m : Member) where
  abbrev now : View
  now = record { station = s.station; done = e; reached = t.reached }

  abbrev cs : ℕ → Member
  cs = set s.members x m

  pub kept_one : Kept p s d g → Later s t d e x
      → MemberInvariant p now x m (g x).rank
      → (Feeds m x → ⊥)
      → ((y : ℕ) → y ≢ x → Linked now x m (g x) y (s.members y) (g y))
      → ((z : ℕ) → z ≢ x → Linked now z (s.members z) (g z) x m (g x))
      → ((k i : ℕ) → 0 < k → k ≤ (g x).rank → IsAt s.station x (s.members x) i → Beyond now cs g k i)
      → (m.is_there ≡ true → 0 < (g x).rank → x ≢ s.station → (i : ℕ) → has m.bearer.receiver.stored i ≡ true
      → Beyond (view s d) s.members g ((g x).rank + 1) i)
      → ((i : ℕ) → s.reached ≤ i → i < t.reached → Beyond now cs g 1 i)
      → Terminal p t e
      → Kept p (record t { members = cs; station = s.station }) e g
  unfolding Passed
  kept_one k l here self from to moved passed new terminal = record {
    each = put_one (λ q c. MemberInvariant p now q c (g q).rank) s.members x m here
        (λ q far. fine_later s.station d e s.reached t.reached l.done l.reached p q (s.members q) (g q).rank (l.others q far) (k.each q));
    links = put_pairs (λ q c _ r u _. Linked now q c (g q) r u (g r)) s.members s.members x m m
        (λ q r far _. linked_later s.station d e s.reached t.reached l.done l.reached q (s.members q) (g q) r (s.members r) (g r)
        (l.others q far) (k.links q r))
        (record { link = λ f _. absurd (self f); lives = λ there _ _ _ _. there })
        from to;
    net = λ i below. net_by i below (nat_lt i s.reached) refl;
    passed = put_one (λ q c. Passed now cs g q c (g q).rank) s.members x m
        (λ there pos other i stored. onto ((g x).rank + 1) i (omega arith) (passed there pos other i stored))
        (λ q far there pos other i stored. onto ((g q).rank + 1) i (omega arith) (k.passed q there pos other i stored));
    terminal = record {
      sends = terminal.sends;
      radio = terminal.radio;
      delivered_are = terminal.delivered_are;
      done_reached = terminal.done_reached;
    };
  }
    where
      onto : (n i : ℕ) → 0 < n → Beyond (view s d) s.members g n i → Beyond now cs g n i
      onto n i z h = onto_one s.station d e s.reached t.reached l.done l.reached s.members g x m moved n i z h

      net_by : (i : ℕ) → i < t.reached → (b : Bool) → nat_lt i s.reached ≡ b → Beyond now cs g 1 i
      net_by i below true h = onto 1 i (omega arith) (k.net i (grind arith))
      net_by i below false h = new i (grind arith) below

-- the rest changes, and no context
pub kept_rest : (p : ℕ → List ℕ) (s t : Model) (d : ℕ) (g : ℕ → Ghost) → Kept p s d g → t.reached ≡ s.reached → Terminal p t d
    → Kept p (record t { members = s.members; station = s.station; reached = s.reached }) d g
kept_rest p s t d g k same_reached terminal = record {
  each = k.each;
  links = k.links;
  net = k.net;
  passed = k.passed;
  terminal = record {
    sends = subst (λ n. Sends p n t.terminal.sender.next t.offered t.terminal.sender.unconfirmed t.terminal.waiting) same_reached
        terminal.sends;
    radio = subst (λ n. Radio p n t.terminal.sender.next t.connected t.air t.carried) same_reached terminal.radio;
    delivered_are = terminal.delivered_are;
    done_reached = subst (λ n. d ≤ n) same_reached terminal.done_reached;
  };
}

-- ---- what is known of a context changes, and nothing else: of one that isn't there, or who feeds it

module _ (p : ℕ → List ℕ) (s : Model) (d : ℕ) (g : ℕ → Ghost) (y : ℕ) (h : Ghost)
    (agree : (s.members y).is_there ≡ true → h.rank ≡ (g y).rank) where
  rank_same : (q : ℕ) → (s.members q).is_there ≡ true → (set g y h q).rank ≡ (g q).rank
  rank_same q = put_one (λ r f. (s.members r).is_there ≡ true → f.rank ≡ (g r).rank) g y h agree (λ _ _ _. refl) q

  beyond_same : (n i : ℕ) → Beyond (view s d) s.members g n i → Beyond (view s d) s.members (set g y h) n i
  unfolding Beyond
  beyond_same n i (inl l) = inl l
  beyond_same n i (inr (r, l, k)) = inr (r, subst (λ m. n ≤ m) (sym (rank_same r k.0)) l, k)

  pub kept_ghost : Kept p s d g → IsUnfed s y → Kept p s d (set g y h)
  unfolding Passed
  kept_ghost k unfed = record {
    each = put_one (λ q f. MemberInvariant p (view s d) q (s.members q) f.rank) g y h
        (record {
          own = λ u. subst (λ n. Own p (view s d) y (s.members y) n) (sym (agree u)) ((k.each y).own u);
          station = λ is.
              (let st = (k.each y).station is in subst (λ n. StationIs d (s.members y) n) (sym (agree st.there)) st);
        })
        (λ q _. k.each q);
    links = put_pairs (λ q _ a r _ c. Linked (view s d) q (s.members q) a r (s.members r) c) g g y h h
        (λ q r _ _. k.links q r)
        (record {
          link = λ f _. absurd (unfed y f);
          lives = λ u pos far n e. u;
        })
        (λ r _. record {
          link = λ f u. subst
              (λ n. Link s.station d y (record { ended = is_ended (s.members y).bearer.hop; rank = n; stored = (s.members y).bearer.receiver.stored })
              r (into (s.members r) (g r))) (sym (agree f.0)) ((k.links y r).link f u);
          lives = λ u pos far n e. (k.links y r).lives u (subst (λ m. 0 < m) (agree u) pos) far n e;
        })
        (λ q _. record { link = λ f _. absurd (unfed q f); lives = (k.links q y).lives });
    net = λ i below. beyond_same 1 i (k.net i below);
    passed = λ q there pos far i stored.
        (let same_rank = rank_same q there in
        subst (λ n. Beyond (view s d) s.members (set g y h) (n + 1) i) (sym same_rank)
        (beyond_same ((g q).rank + 1) i (k.passed q there (subst (λ n. 0 < n) same_rank pos) far i stored)));
    terminal = k.terminal;
  }
