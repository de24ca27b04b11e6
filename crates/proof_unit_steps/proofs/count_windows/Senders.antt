-- A sender that numbers a packet where it has room, and one of which a COUNT confirms all up to it, stay in the window.
use Rattle.std.proofs.Common.{◌≡◌, ◌<◌, ◌≤◌, ℕ, zero, suc, ◌+◌, ◌-◌, Bool, true, false, cond, List, [], ◌∷◌, ◌++◌, map, filter, refl, sym, ap, ◌∙◌, arith}
use Rattle.std.specs.Prelude.{nat_lt}
use Rattle.std.specs.List.{range_with_len}
use Rattle.std.proofs.lemmas.Bool.Decides.{nat_tests}
use Rattle.std.proofs.lemmas.List.{map-append}
use Rattle.gnb_types.specs.declared.names.SnBits.{SnBits}
use Rattle.pdcp_defs.specs.Senders.{Sender, first_of, first, window, has_room, numbered, confirmed_to}
use Rattle.proof_unit_steps.specs.count_windows.Windows.{InWindow}

range_and : (u k : ℕ) → range_with_len u k ++ (u + k) ∷ [] ≡ range_with_len u (suc k)
range_and u zero = let e : u + 0 ≡ u = omega arith in ap (λ (n : ℕ). n ∷ []) e
range_and u (suc k) =
    let e : u + suc k ≡ u + 1 + k = omega arith in
    ap (λ (ns : List ℕ). u ∷ ns) (ap (λ (n : ℕ). range_with_len (u + 1) k ++ n ∷ []) e ∙ range_and (u + 1) k)

room_for : (n f k w : ℕ) → n ≡ f + k → nat_lt (n - f) w ≡ true → suc k ≤ w
room_for n f k w e h = grind (arith, nat_tests)

above : (c n : ℕ) → c < n → nat_lt c n ≡ true
above c n h = grind (arith, nat_tests)

one_above : (c n : ℕ) → c < n → c < n + 1
one_above c n h = omega (arith, h)

not_above : (c n : ℕ) → nat_lt c n ≡ true → c < n
not_above c n h = grind (arith, nat_tests)

module _ {X : Type 0} where
  abbrev count_in : ℕ × X → ℕ
  count_in e = e.0

  first_is : (es : List (ℕ × X)) (u k n : ℕ) → map count_in es ≡ range_with_len u k → n ≡ u + k → first_of n es ≡ u
  first_is [] u zero n e f = omega (arith, f)
  first_is [] u (suc k) n e f = absurd cc
  first_is (x ∷ es) u zero n e f = absurd cc
  first_is (x ∷ es) u (suc k) n e f = let same : x.0 ≡ u = cc in same

  pub one_more : (sn : SnBits) (quota : ℕ) (s : Sender X) (x : X) → InWindow sn quota s → has_room sn quota s ≡ true → InWindow sn quota (numbered s x)
  unfolding numbered has_room first
  one_more sn quota s x h room = record {
    first = h.first;
    many = suc h.many;
    unconfirmed = map-append count_in s.unconfirmed ((s.next, x) ∷ []) ∙ (λ i. h.unconfirmed i ++ h.below i ∷ []) ∙ range_and h.first h.many;
    below = omega (arith, h.below);
    few = room_for s.next h.first h.many (window sn quota) h.below
        (ap (λ (n : ℕ). nat_lt (s.next - n) (window sn quota)) (sym (first_is s.unconfirmed h.first h.many s.next h.unconfirmed h.below)) ∙ room);
  }

  -- ---- what is confirmed

  abbrev later : ℕ → ℕ × X → Bool
  later count e = nat_lt count e.0

  kept : (count : ℕ) (es : List (ℕ × X)) (u k : ℕ) → count < u → map count_in es ≡ range_with_len u k → filter (later count) es ≡ es
  kept count [] u k low e = refl
  kept count (x ∷ es) u zero low e = absurd cc
  kept count (x ∷ es) u (suc k) low e =
      let same : x.0 ≡ u = cc in
      let others : map count_in es ≡ range_with_len (u + 1) k = cc in
      ap (λ (t : Bool). cond t (x ∷ filter (later count) es) (filter (later count) es)) (ap (nat_lt count) same ∙ above count u low)
      ∙ ap (λ (ys : List (ℕ × X)). x ∷ ys) (kept count es (u + 1) k (one_above count u low) others)

  record Left (es : List (ℕ × X)) (u k : ℕ) : Type 0 where
    first : ℕ
    many : ℕ
    are : map count_in es ≡ range_with_len first many
    sum : first + many ≡ u + k
    fewer : many ≤ k

  left_of : (count : ℕ) (es : List (ℕ × X)) (u k : ℕ) → map count_in es ≡ range_with_len u k → Left (filter (later count) es) u k
  left_of count [] u k e = record { first = u; many = k; are = e; sum = refl; fewer = omega arith }
  left_of count (x ∷ es) u zero e = absurd cc
  left_of count (x ∷ es) u (suc k) e =
      let same : x.0 ≡ u = cc in
      let others : map count_in es ≡ range_with_len (u + 1) k = cc in
      by (nat_lt count x.0) (sym (ap (nat_lt count) same)) same others (left_of count es (u + 1) k others)
    where
      by : (t : Bool) → nat_lt count u ≡ t → x.0 ≡ u → map count_in es ≡ range_with_len (u + 1) k → Left (filter (later count) es) (u + 1) k
          → Left (cond t (x ∷ filter (later count) es) (filter (later count) es)) u (suc k)
      by true f same others l = record {
        first = u;
        many = suc k;
        are = (λ i. same i ∷ map count_in (kept count es (u + 1) k (one_above count u (not_above count u f)) others i)) ∙ ap (λ (ns : List ℕ). u ∷ ns) others;
        sum = refl;
        fewer = omega arith;
      }
      by false f same others l = record {
        first = l.first;
        many = l.many;
        are = l.are;
        sum = omega (arith, l.sum);
        fewer = omega (arith, l.fewer);
      }

  pub confirmed_stays : (sn : SnBits) (quota : ℕ) (s : Sender X) (count : ℕ) → InWindow sn quota s → InWindow sn quota (confirmed_to s count)
  unfolding confirmed_to
  confirmed_stays sn quota s count h =
      let l = left_of count s.unconfirmed h.first h.many h.unconfirmed in record {
        first = l.first;
        many = l.many;
        unconfirmed = l.are;
        below = h.below ∙ sym l.sum;
        few = omega (arith, l.fewer, h.few);
      }
