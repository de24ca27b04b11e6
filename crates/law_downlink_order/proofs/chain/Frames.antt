-- One context changes, or one and the one that it feeds; all others stay. Facts stay as more is offered, delivered and sent.
use Rattle.std.proofs.Common.{◌≡◌, ◌≢◌, ℕ, zero, suc, ◌+◌, ◌-◌, ◌<◌, ◌≤◌, ◌==◌, Bool, true, false, if◌then◌else◌, List, [], ◌∷◌, ◌++◌, refl, sym, ap, subst, ◌∙◌, true≢false, eqb-true, max, arith}
use Rattle.std.specs.List.{AllByRecursion}
use Rattle.intervals.specs.Intervals.{segment, upto, HasNoGap, reach}
use Rattle.intervals.proofs.Intervals.{all_append, upto-cons, upto-nil, upto-no_gap, upto-reach, HasNoGap-append, reach-append}
use Rattle.bearer_defs.specs.chain_defs.Models.{Item, Member, Model, set}
use Rattle.bearer_defs.specs.chain_defs.Orders.{changed, put_on, passed}
use Rattle.bearer_defs.specs.chain_defs.Assumptions.{Feeds}
use Rattle.law_downlink_order.proofs.chain.Facts.{Ghost, View, view, pairs, Own, Numbers, IsFed, IsN3, Spoken, MemberInvariant, out, into, Link, Linked, Radio, RadioOf, Kept, Good}

pub apart : {b : Bool} {X : Type 0} → b ≡ true → b ≡ false → X
apart h k = absurd (true≢false (sym h ∙ k))

pub same : (q k : ℕ) → q ≡ k → (q == k) ≡ true
same q k h = grind arith

differ : (q k : ℕ) → q ≢ k → (q == k) ≡ false
differ q k h = grind arith

-- ---- functions with a value changed

module _ {X : Type 0} (f : ℕ → X) (k : ℕ) (x : X) where
  set_by : (q : ℕ) (t : Bool) → t ≡ true → (if t then x else f q) ≡ x
  set_by q true h = refl
  set_by q false h = apart h refl

  not_by : (q : ℕ) (t : Bool) → t ≡ false → (if t then x else f q) ≡ f q
  not_by q true h = apart refl h
  not_by q false h = refl

  pub set_here : set f k x k ≡ x
  set_here = set_by k (k == k) (grind arith)

  pub set_far : (q : ℕ) → q ≢ k → set f k x q ≡ f q
  set_far q h = not_by q (q == k) (differ q k h)

-- a value that is there already changes nothing
pub set_back : {X : Type 0} (f : ℕ → X) (k : ℕ) (x : X) (y : ℕ) → y ≢ k → set (set f k x) y (f y) ≡ set f k x
set_back f k x y far i q = back q i
  where
    by : (q : ℕ) (t : Bool) → (q == y) ≡ t → (if t then f y else set f k x q) ≡ set f k x q
    by q true e = sym (set_far f k x y far) ∙ ap (set f k x) (sym (eqb-true q y e))
    by q false e = refl

    back : (q : ℕ) → set (set f k x) y (f y) q ≡ set f k x q
    back q = by q (q == y) refl

pub put_each : {X Y : Type 0} (P : ℕ → X → Y → Type 0) (cs : ℕ → X) (g : ℕ → Y) (x : ℕ) (c : X) (h : Y) → P x c h
    → ((q : ℕ) → q ≢ x → P q (cs q) (g q)) → (q : ℕ) → P q (set cs x c q) (set g x h q)
put_each {X} {Y} P cs g x c h here far q = by (q == x) refl
  where
    by : (t : Bool) → (q == x) ≡ t → P q (if t then c else cs q) (if t then h else g q)
    by true e = subst (λ i. P i c h) (sym (eqb-true q x e)) here
    by false e = far q (λ (k : q ≡ x). apart (same q x k) e)

pub put_pairs : {X Y : Type 0} (Q : ℕ → X → Y → ℕ → X → Y → Type 0) (cs : ℕ → X) (g : ℕ → Y) (x : ℕ) (c : X) (h : Y)
    → ((q r : ℕ) → q ≢ x → r ≢ x → Q q (cs q) (g q) r (cs r) (g r))
    → Q x c h x c h
    → ((r : ℕ) → r ≢ x → Q x c h r (cs r) (g r))
    → ((q : ℕ) → q ≢ x → Q q (cs q) (g q) x c h)
    → (q r : ℕ) → Q q (set cs x c q) (set g x h q) r (set cs x c r) (set g x h r)
put_pairs Q cs g x c h all self from to q =
    put_each (λ i m k. (r : ℕ) → Q i m k r (set cs x c r) (set g x h r)) cs g x c h
    (put_each (λ r m k. Q x c h r m k) cs g x c h self from)
    (λ i e. put_each (λ r m k. Q i (cs i) (g i) r m k) cs g x c h (to i e) (λ r n. all i r e n))
    q

-- ---- facts stay

pub record Later (b c : View) : Type 0 where
  pub epoch : b.epoch ≤ c.epoch
  pub offered : b.offered ≤ c.offered
  pub deliv : b.deliv ≤ c.deliv
  pub reached : b.epoch ≡ c.epoch → b.reached ≤ c.reached

fed_later : (p : ℕ → List ℕ) (b c : ℕ) (xs : List Item) (held base top hop_held hop_top n3_low : ℕ) (ended : Bool) → b ≤ c
    → IsFed p b xs held base top hop_held hop_top n3_low ended → IsFed p c xs held base top hop_held hop_top n3_low ended
fed_later p b c xs held base top hop_held hop_top n3_low ended l f = record {
  items = f.items;
  held_base = f.held_base;
  to_come = f.to_come;
  all_come = f.all_come;
  top_hop = f.top_hop;
  hop_offered = (let h = f.hop_offered in omega arith);
  at_end = f.at_end;
}

n3_later : (p : ℕ → List ℕ) (b c : ℕ) (xs : List Item) (low high : ℕ) (gone : Bool) → b ≤ c → IsN3 p b xs low high gone → IsN3 p c xs
    low high gone
n3_later p b c xs low high gone l f = record { items = f.items; ordered = f.ordered; offered_all = (let h = f.offered_all in omega arith) }

pub own_later : (p : ℕ → List ℕ) (w : ℕ) (b c : View) (m : Member) (g : Ghost) → Later b c → Own p w b m g → Own p w c m g
own_later p w b c m g l o = record {
  lists = o.lists;
  status = o.status;
  tunnels = record {
    is_fed = λ f. fed_later p b.offered c.offered _ _ _ _ _ _ _ _ l.offered (o.tunnels.is_fed f);
    is_n3 = λ f. n3_later p b.offered c.offered _ _ _ _ l.offered (o.tunnels.is_n3 f);
    fed_open = o.tunnels.fed_open;
    shut = o.tunnels.shut;
    shut_n3 = o.tunnels.shut_n3;
    closed = o.tunnels.closed;
  };
  flags = o.flags;
  spoken = spoken_later o.spoken;
  numbers = numbers_later o.numbers;
}
  where
    spoken_later : Spoken m.epoch b.epoch g.sent b.reached → Spoken m.epoch c.epoch g.sent c.reached
    spoken_later k = record {
      spoke = (let e = k.spoke in let f = l.epoch in omega arith);
      spoken = λ (e : m.epoch ≡ c.epoch).
          let now : b.epoch ≡ c.epoch = (let h = k.spoke in let i = l.epoch in omega arith) in
          let same : m.epoch ≡ b.epoch = omega arith in
          let h = k.spoken same in let i = l.reached now in omega arith;
    }

    numbers_later : Numbers w b.offered b.deliv g.low g.held g.sent g.base g.next g.top → Numbers w c.offered c.deliv g.low g.held
        g.sent g.base g.next g.top
    numbers_later n = record {
      low_held = n.low_held;
      held_next = n.held_next;
      next_top = n.next_top;
      top_offered = (let h = n.top_offered in let i = l.offered in omega arith);
      low_deliv = (let h = n.low_deliv in let i = l.deliv in omega arith);
      sent_held = n.sent_held;
      base_next = n.base_next;
      window = n.window;
      none_waits = n.none_waits;
      all_held = n.all_held;
    }

-- of others, where neither the path nor the station changes, and nothing is offered
pub fine_later : (p : ℕ → List ℕ) (w : ℕ) (b c : View) (q : ℕ) (m : Member) (g : Ghost) → Later b c → c.path ≡ b.path → c.station ≡
    b.station
    → c.offered ≡ b.offered → MemberInvariant p w b q m g → MemberInvariant p w c q m g
fine_later p w b c q m g l path station offered f = record {
  own = λ t. own_later p w b c m g l (f.own t);
  path = λ e. (let k = f.path (e ∙ path) in record {
    is_there = k.is_there;
    is_open = k.is_open;
    is_last = k.is_last ∙ sym offered;
    is_not_gone = k.is_not_gone;
    is_pathed = k.is_pathed;
  });
  station = λ e. f.station (e ∙ station);
}

-- ---- one context changes

module _ (p : ℕ → List ℕ) (w : ℕ) (s t : Model) (g : ℕ → Ghost) (x : ℕ) (m : Member) (h : Ghost) where
  pub kept_one : Kept p w s g
      → MemberInvariant p w (view t) x m h
      → ((q : ℕ) → q ≢ x → MemberInvariant p w (view t) q (s.members q) (g q))
      → (Feeds m x → ⊥)
      → ((y : ℕ) → y ≢ x → Linked x m h y (s.members y) (g y))
      → ((y : ℕ) → y ≢ x → Linked y (s.members y) (g y) x m h)
      → RadioOf p t
      → Kept p w (record t { members = set s.members x m }) (set g x h)
  kept_one k here far self from to radio = record {
    each = put_each (λ q c i. MemberInvariant p w (view t) q c i) s.members g x m h here far;
    links = put_pairs Linked s.members g x m h (λ q r _ _. k.links q r) (λ f _. absurd (self f)) from to;
    radio = radio;
  }

-- ---- a frozen context takes an item, and passes it on

-- what of the ghosts of the one that is fed changes
abbrev pub given : Ghost → ℕ → ℕ → Bool → Ghost
given g hop_held hop_top ended = record g { hop_held = hop_held; hop_top = hop_top; ended = ended }

abbrev pub with_items : Member → List Item → Member
with_items m items = record m { forwarded = m.forwarded ++ items }

-- one changes and the one that its hop leads to
module _ (p : ℕ → List ℕ) (w : ℕ) (s t : Model) (g : ℕ → Ghost) (x : ℕ) (m : Member) (h : Ghost) (y : ℕ) (n : Member) (i : Ghost) where
  pub kept_two : m.next_hop ≡ y → y ≢ x → Kept p w s g
      → MemberInvariant p w (view t) x m h
      → MemberInvariant p w (view t) y n i
      → ((q : ℕ) → q ≢ x → q ≢ y → MemberInvariant p w (view t) q (s.members q) (g q))
      → Linked x m h y n i
      → ((z : ℕ) → z ≢ x → z ≢ y → Linked z (s.members z) (g z) y n i)
      → (Feeds n y → ⊥)
      → ((z : ℕ) → z ≢ x → z ≢ y → Linked z (s.members z) (g z) x m h)
      → Linked y n i x m h
      → ((z : ℕ) → z ≢ x → z ≢ y → Linked y n i z (s.members z) (g z))
      → RadioOf p t
      → Kept p w (record t { members = set (set s.members x m) y n }) (set (set g x h) y i)
  kept_two leads far k fine_x fine_y fine link others self to back on radio = record {
    each = put_each (λ q c j. MemberInvariant p w (view t) q c j) (set s.members x m) (set g x h) y n i fine_y
        (λ q far_y. put_each (λ r c j. r ≢ y → MemberInvariant p w (view t) r c j) s.members g x m h (λ _. fine_x)
        (λ r far_x far_y. fine r far_x far_y) q far_y);
    links = put_pairs Linked (set s.members x m) (set g x h) y n i
        pairs_far
        (λ f _. absurd (self f))
        (λ z o. put_each (λ r c j. r ≢ y → Linked y n i r c j) s.members g x m h (λ _. back) (λ r far_x far_y. on r far_x far_y) z o)
        (λ z o. put_each (λ r c j. r ≢ y → Linked r c j y n i) s.members g x m h (λ _. link) (λ r far_x far_y. others r far_x far_y) z o);
    radio = radio;
  }
    where
      pairs_far : (q r : ℕ) → q ≢ y → r ≢ y → Linked q (set s.members x m q) (set g x h q) r (set s.members x m r) (set g x h r)
      pairs_far q r far_q far_r = put_pairs (λ a c v b d u. a ≢ y → b ≢ y → Linked a c v b d u) s.members g x m h
          (λ a b _ _ _ _. k.links a b)
          (λ _ _ f _. absurd (far (sym leads ∙ f.3)))
          (λ b _ _ o f _. absurd (o (sym f.3 ∙ leads)))
          (λ a o far_y _. to a o far_y)
          q r far_q far_r

module _ (p : ℕ → List ℕ) (w : ℕ) (s : Model) (g : ℕ → Ghost) (x : ℕ) (m : Member) (h : Ghost) (items : List Item) (a b : ℕ) (e : Bool) where
  pass_on : (y : ℕ) → m.next_hop ≡ y → y ≢ x → Kept p w s g
      → MemberInvariant p w (view s) x m h
      → MemberInvariant p w (view s) y (with_items (s.members y) items) (given (g y) a b e)
      → Linked x m h y (with_items (s.members y) items) (given (g y) a b e)
      → ((z : ℕ) → z ≢ x → z ≢ y → Linked z (s.members z) (g z) y (with_items (s.members y) items) (given (g y) a b e))
      → (Feeds (s.members y) y → ⊥)
      → ((z : ℕ) → z ≢ x → Linked z (s.members z) (g z) x m h)
      → Kept p w (put_on (changed s x m) y items) (set (set g x h) y (given (g y) a b e))
  pass_on y leads far k fine_x fine_y link others self to =
      subst (λ c. Kept p w (record s { members = set (set s.members x m) y (record c { forwarded = c.forwarded ++ items }) })
      (set (set g x h) y (given (g y) a b e)))
      (sym (set_far s.members x m y far))
      (kept_two p w s s g x m h y (with_items (s.members y) items) (given (g y) a b e) leads far k fine_x fine_y (λ q _ _. k.each q)
      link others self
      (λ z o _. to z o) (λ f t. to y far f t) (λ z _ _ f t. k.links y z f t) k.radio)

-- what it takes for one of a context to be passed on
module _ (p : ℕ → List ℕ) (w : ℕ) (s : Model) (g : ℕ → Ghost) (x : ℕ) (m : Member) (h : Ghost) (items : List Item) (a b : ℕ) (e : Bool) where
  abbrev fed_one : Member
  fed_one = s.members m.next_hop

  abbrev fed_ghost : Ghost
  fed_ghost = g m.next_hop

  pub kept_pass : Kept p w s g
      → Feeds (s.members x) m.next_hop
      → MemberInvariant p w (view s) x m h
      → (Link x (out (g x)) m.next_hop (into fed_one fed_ghost) → Own p w (view s) fed_one fed_ghost
      → Own p w (view s) (with_items fed_one items) (given fed_ghost a b e))
      → (Link x (out (g x)) m.next_hop (into fed_one fed_ghost) → Feeds m m.next_hop
      → Link x (out h) m.next_hop (into (with_items fed_one items) (given fed_ghost a b e)))
      → ((z : ℕ) → z ≢ x → Linked z (s.members z) (g z) x m h)
      → Good p w (passed s x m items)
  kept_pass k feeds fine own link to = (set (set g x h) m.next_hop (given fed_ghost a b e), by fed_one.is_there refl)
    where
      by : (t : Bool) → fed_one.is_there ≡ t → Kept p w (passed s x m items) (set (set g x h) m.next_hop (given fed_ghost a b e))
      by true t =
          let l = k.links x m.next_hop feeds t in
          let f = k.each m.next_hop in
          pass_on p w s g x m h items a b e m.next_hop refl l.other k fine
          (record { own = λ _. own l (f.own t); path = f.path; station = f.station })
          (λ i _. link l i)
          (λ z far _ i j. absurd (far (sym (k.links z m.next_hop i j).from ∙ l.from)))
          (λ i. (k.links m.next_hop m.next_hop i t).other refl)
          to
      by false t =
          let f = k.each m.next_hop in
          pass_on p w s g x m h items a b e m.next_hop refl (λ i. apart feeds.0 (subst (λ c. (s.members c).is_there ≡ false) i t)) k fine
          (record { own = λ j. apart j t; path = f.path; station = f.station })
          (λ _ j. apart j t)
          (λ z _ _ _ j. apart j t)
          (λ i. apart i.0 t)
          to

-- ---- the radio

segment_packets : (p : ℕ → List ℕ) (a n : ℕ) → AllByRecursion (λ (e : ℕ × List ℕ). e.1 ≡ p e.0) (segment (pairs p) a n)
unfolding segment
segment_packets p a zero = tt
segment_packets p a (suc n) = (refl, segment_packets p (a + 1) n)

packets_upto : (p : ℕ → List ℕ) (a b : ℕ) → AllByRecursion (λ (e : ℕ × List ℕ). e.1 ≡ p e.0) (upto (pairs p) a b)
unfolding upto
packets_upto p a b = segment_packets p a (b - a)

pub upto-one : (p : ℕ → List ℕ) (i : ℕ) → (i, p i) ∷ [] ≡ upto (pairs p) i (i + 1)
upto-one p i =
    let h : i < i + 1 = omega arith in
    let l : i + 1 ≤ i + 1 = omega arith in
    sym (upto-cons (pairs p) i (i + 1) h ∙ ap (λ xs. (i, p i) ∷ xs) (upto-nil (pairs p) (i + 1) (i + 1) l))

-- an interval is sent, by one that speaks to this radio or to another
pub record Said (p : ℕ → List ℕ) (s : Model) (m : Member) (b : ℕ) (air : List (ℕ × List ℕ)) : Type 0 where
  pub radio : Radio p s.offered s.terminal.deliv s.terminal.stored air s.delivered
  pub grows : reach s.terminal.deliv s.air ≤ reach s.terminal.deliv air
  pub reaches : m.epoch ≡ s.epoch → reach s.terminal.deliv air ≡ max (reach s.terminal.deliv s.air) b

pub said : (p : ℕ → List ℕ) (s : Model) (m : Member) (items : List (ℕ × List ℕ)) (a b : ℕ) → RadioOf p s → items ≡ upto (pairs p) a b
    → b ≤ s.offered → (m.epoch ≡ s.epoch → a ≤ reach s.terminal.deliv s.air)
    → Said p s m b (if m.epoch == s.epoch then s.air ++ items else s.air)
said p s m items a b r is_interval most low = by (m.epoch == s.epoch) refl
  where
    by : (t : Bool) → (m.epoch == s.epoch) ≡ t → Said p s m b (if t then s.air ++ items else s.air)
    by true t =
        let l = low (eqb-true m.epoch s.epoch t) in
        let now : reach s.terminal.deliv (s.air ++ items) ≡ max (reach s.terminal.deliv s.air) b =
        reach-append s.terminal.deliv s.air items ∙ ap (λ xs. reach (reach s.terminal.deliv s.air) xs) is_interval ∙ upto-reach p
        (reach s.terminal.deliv s.air) a b l in
        record {
          radio = record {
            no_gap = HasNoGap-append s.terminal.deliv s.air items r.no_gap
                (subst (λ xs. HasNoGap (reach s.terminal.deliv s.air) xs) (sym is_interval)
                (upto-no_gap p (reach s.terminal.deliv s.air) a b l));
            packets = all_append _ s.air items r.packets
                (subst (λ xs. AllByRecursion (λ (e : ℕ × List ℕ). e.1 ≡ p e.0) xs) (sym is_interval) (packets_upto p a b));
            reached_offered = (let h = r.reached_offered in omega (arith, now));
            delivered_are = r.delivered_are;
            none_stored = r.none_stored;
          };
          grows = omega (arith, now);
          reaches = λ _. now;
        }
    by false t = record { radio = r; grows = omega arith; reaches = λ e. apart (same m.epoch s.epoch e) t }
