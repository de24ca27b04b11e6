-- What the receiving entity delivers, and what it has had.
use Rattle.std.proofs.Common.{◌≡◌, ◌==◌, ℕ, ◌+◌, ◌<◌, ◌≤◌, Bool, true, false, cond, ◌||◌, nat_lt, List, [], ◌∷◌, Option, Some, refl, ap, ◌∙◌, subst, arith}
use Rattle.std.specs.Prelude.{is_some}
use Rattle.std.specs.Ordering.{nat_cmp, MatchOrdering, is_eq, eq_by_cmp}
use Rattle.std.specs.Cmp.{ranks}
use Rattle.std.specs.declared.cmp.Ordering.{Ordering}
use Rattle.std.specs.declared.cmp.Ordering.TheVariants.{Less, Equal, Greater}
use Rattle.std.specs.List.{AllByRecursion}
use Rattle.std.specs.Map.{lookup}
use Rattle.std.specs.BTreeMap.{is_at}
use Rattle.std.proofs.lemmas.Bool.Decides.{nat_tests}
use Rattle.std.proofs.lemmas.Cmp.{nat_cmp_total}
use borrow.Author.Tests.{eqb-true, ltb-true}
use Rattle.tables.specs.Tables.{find, put}
use Rattle.tables.proofs.TableLaws.{find-put, find-put-same}
use Rattle.pdcp_defs.specs.Receivers.{Receiver, deliver_from, deliver, with_packet, stored, is_duplicate}
use Rattle.law_dup.specs.events.Counted.{AreOf, AreCounted}
use Rattle.law_dup.specs.events.Kept.{AreAbove}
use Rattle.law_dup.proofs.events.Lists.{AreFrom, from_above}

abbrev pub receiver : ℕ → List (ℕ × List ℕ) → Receiver (List ℕ)
receiver deliv es = record { deliv = deliv; stored = es }

-- what is delivered has COUNTs one after another, from the awaited one on
pub delivers_counted : (deliv : ℕ) (es : List (ℕ × List ℕ)) → AreCounted deliv (deliver_from deliv es).after.deliv (deliver_from deliv es).packets
delivers_counted deliv [] = refl
delivers_counted deliv (e ∷ es) = by (e.0 == deliv) refl (delivers_counted (deliv + 1) es)
  where
    by : (b : Bool) → (e.0 == deliv) ≡ b → AreCounted (deliv + 1) (deliver_from (deliv + 1) es).after.deliv (deliver_from (deliv + 1) es).packets
        → AreCounted deliv (cond b (with_packet e (deliver_from (deliv + 1) es)) (record { packets = []; after = receiver deliv (e ∷ es) })).after.deliv
        (cond b (with_packet e (deliver_from (deliv + 1) es)) (record { packets = []; after = receiver deliv (e ∷ es) })).packets
    by true is rest = (eqb-true e.0 deliv is, rest)
    by false is rest = refl

-- they are packets that were stored, and the others stay
pub delivers_of : (packets : List (List ℕ)) (deliv : ℕ) (es : List (ℕ × List ℕ)) → AreOf packets es
    → AreOf packets (deliver_from deliv es).packets × AreOf packets (deliver_from deliv es).after.stored
delivers_of packets deliv [] all = (tt, tt)
delivers_of packets deliv (e ∷ es) all = by (e.0 == deliv) (delivers_of packets (deliv + 1) es all.1)
  where
    by : (b : Bool) → AreOf packets (deliver_from (deliv + 1) es).packets × AreOf packets (deliver_from (deliv + 1) es).after.stored
        → AreOf packets (cond b (with_packet e (deliver_from (deliv + 1) es)) (record { packets = []; after = receiver deliv (e ∷ es) })).packets
        × AreOf packets (cond b (with_packet e (deliver_from (deliv + 1) es)) (record { packets = []; after = receiver deliv (e ∷ es) })).after.stored
    by true rest = ((all.0, rest.0), rest.1)
    by false rest = (tt, all)

pub delivers_above : (deliv : ℕ) (es : List (ℕ × List ℕ)) → AreFrom deliv es → AreAbove (deliver_from deliv es).after.deliv (deliver_from deliv es).after.stored
delivers_above deliv [] up = tt
delivers_above deliv (e ∷ es) up = by (e.0 == deliv) refl (λ same. delivers_above (deliv + 1) es (subst (λ (n : ℕ). AreFrom n es) (ap (λ n. n + 1) same) (from_above e.0 es up.1)))
  where
    by : (b : Bool) → (e.0 == deliv) ≡ b → (e.0 ≡ deliv → AreAbove (deliver_from (deliv + 1) es).after.deliv (deliver_from (deliv + 1) es).after.stored)
        → AreAbove (cond b (with_packet e (deliver_from (deliv + 1) es)) (record { packets = []; after = receiver deliv (e ∷ es) })).after.deliv
        (cond b (with_packet e (deliver_from (deliv + 1) es)) (record { packets = []; after = receiver deliv (e ∷ es) })).after.stored
    by true is rest = rest (eqb-true e.0 deliv is)
    by false is rest = (let l : deliv ≤ e.0 = up.0 in grind (arith, nat_tests), up.1)

pub delivers_below : (end deliv : ℕ) (es : List (ℕ × List ℕ)) → deliv ≤ end → AllByRecursion (λ e. e.0 < end) es
    → ((deliver_from deliv es).after.deliv ≤ end) × AllByRecursion (λ e. e.0 < end) (deliver_from deliv es).after.stored
delivers_below end deliv [] l all = (l, tt)
delivers_below end deliv (e ∷ es) l all =
    by (e.0 == deliv) refl (λ same. delivers_below end (deliv + 1) es (let h : e.0 < end = all.0 in omega (arith, h, same)) all.1)
  where
    by : (b : Bool) → (e.0 == deliv) ≡ b
        → (e.0 ≡ deliv → ((deliver_from (deliv + 1) es).after.deliv ≤ end) × AllByRecursion (λ x. x.0 < end) (deliver_from (deliv + 1) es).after.stored)
        → ((cond b (with_packet e (deliver_from (deliv + 1) es)) (record { packets = []; after = receiver deliv (e ∷ es) })).after.deliv ≤ end)
        × AllByRecursion (λ x. x.0 < end) (cond b (with_packet e (deliver_from (deliv + 1) es)) (record { packets = []; after = receiver deliv (e ∷ es) })).after.stored
    by true is rest = rest (eqb-true e.0 deliv is)
    by false is rest = (l, all)

pub delivers_up : (deliv : ℕ) (es : List (ℕ × List ℕ)) → deliv ≤ (deliver_from deliv es).after.deliv
delivers_up deliv [] = omega arith
delivers_up deliv (e ∷ es) = by (e.0 == deliv) (delivers_up (deliv + 1) es)
  where
    by : (b : Bool) → deliv + 1 ≤ (deliver_from (deliv + 1) es).after.deliv
        → deliv ≤ (cond b (with_packet e (deliver_from (deliv + 1) es)) (record { packets = []; after = receiver deliv (e ∷ es) })).after.deliv
    by true l = omega (arith, l)
    by false l = omega arith

-- ---- what came once is a duplicate from then on

equal_is : (a b : ℕ) → nat_cmp a b ≡ Equal → a ≡ b
equal_is a b e = by (nat_cmp a b) (ranks a b) e
  where
    by : (r : Ordering) → MatchOrdering r (a < b) (a ≡ b) (b < a) → r ≡ Equal → a ≡ b
    by Less is h = cc
    by Equal is h = is
    by Greater is h = cc

-- had, below the awaited COUNT or stored
abbrev pub had : ℕ → List (ℕ × List ℕ) → ℕ → Bool
had deliv es count = nat_lt count deliv || is_some (find nat_cmp es count)

or_left : (a b : Bool) → a ≡ true → (a || b) ≡ true
or_left true b e = refl
or_left false b e = cc

or_right : (a b : Bool) → b ≡ true → (a || b) ≡ true
or_right true b e = refl
or_right false b e = e

later_had : (deliv : ℕ) (x : ℕ × List ℕ) (es : List (ℕ × List ℕ)) (count : ℕ) → x.0 ≡ deliv → had deliv (x ∷ es) count ≡ true
    → had (deliv + 1) es count ≡ true
unfolding find
later_had deliv x es count same e = at (nat_cmp count x.0) refl (nat_lt count deliv) refl e
  where
    under : count ≤ deliv → nat_lt count (deliv + 1) ≡ true
    under l = grind (arith, nat_tests)

    at : (o : Ordering) → nat_cmp count x.0 ≡ o → (b : Bool) → nat_lt count deliv ≡ b
        → (b || is_some (cond (is_eq o) (Some x.1) (lookup (is_at (nat_cmp count)) es))) ≡ true
        → (nat_lt count (deliv + 1) || is_some (lookup (is_at (nat_cmp count)) es)) ≡ true
    at o is true low h = or_left (nat_lt count (deliv + 1)) (is_some (lookup (is_at (nat_cmp count)) es)) (under (let l = ltb-true count deliv low in omega (arith, l)))
    at Equal is false low h =
        or_left (nat_lt count (deliv + 1)) (is_some (lookup (is_at (nat_cmp count)) es)) (under (let l = equal_is count x.0 is in omega (arith, l, same)))
    at Less is false low h = or_right (nat_lt count (deliv + 1)) (is_some (lookup (is_at (nat_cmp count)) es)) h
    at Greater is false low h = or_right (nat_lt count (deliv + 1)) (is_some (lookup (is_at (nat_cmp count)) es)) h

delivers_had : (deliv : ℕ) (es : List (ℕ × List ℕ)) (count : ℕ) → had deliv es count ≡ true
    → had (deliver_from deliv es).after.deliv (deliver_from deliv es).after.stored count ≡ true
delivers_had deliv [] count e = e
delivers_had deliv (x ∷ es) count e = by (x.0 == deliv) refl (λ same. delivers_had (deliv + 1) es count (later_had deliv x es count same e))
  where
    by : (b : Bool) → (x.0 == deliv) ≡ b
        → (x.0 ≡ deliv → had (deliver_from (deliv + 1) es).after.deliv (deliver_from (deliv + 1) es).after.stored count ≡ true)
        → had (cond b (with_packet x (deliver_from (deliv + 1) es)) (record { packets = []; after = receiver deliv (x ∷ es) })).after.deliv
        (cond b (with_packet x (deliver_from (deliv + 1) es)) (record { packets = []; after = receiver deliv (x ∷ es) })).after.stored count ≡ true
    by true is rest = rest (eqb-true x.0 deliv is)
    by false is rest = e

put_had : (deliv : ℕ) (es : List (ℕ × List ℕ)) (key : ℕ) (packet : List ℕ) (count : ℕ) → had deliv es count ≡ true
    → had deliv (put nat_cmp es key packet) count ≡ true
put_had deliv es key packet count e =
    ap (λ (x : Option (List ℕ)). nat_lt count deliv || is_some x) (find-put nat_cmp_total es key packet count) ∙ by (eq_by_cmp nat_cmp count key)
  where
    by : (c : Bool) → (nat_lt count deliv || is_some (cond c (Some packet) (find nat_cmp es count))) ≡ true
    by true = or_right (nat_lt count deliv) true refl
    by false = e

-- a stored COUNT is above the awaited one
found_above : (low : ℕ) (es : List (ℕ × List ℕ)) (count : ℕ) → AreAbove low es → is_some (find nat_cmp es count) ≡ true → low < count
unfolding find
found_above low [] count up e = cc
found_above low (x ∷ es) count up e = at (nat_cmp count x.0) refl e (λ h. found_above x.0 es count up.1 h)
  where
    at : (o : Ordering) → nat_cmp count x.0 ≡ o → is_some (cond (is_eq o) (Some x.1) (lookup (is_at (nat_cmp count)) es)) ≡ true
        → (is_some (lookup (is_at (nat_cmp count)) es) ≡ true → x.0 < count) → low < count
    at Equal is h rest = let s = equal_is count x.0 is in let l : low < x.0 = up.0 in omega (arith, s, l)
    at Less is h rest = let m = rest h in let l : low < x.0 = up.0 in omega (arith, m, l)
    at Greater is h rest = let m = rest h in let l : low < x.0 = up.0 in omega (arith, m, l)

-- what was had, and is none above the awaited COUNT, was delivered
pub had_below : (r : Receiver (List ℕ)) (count : ℕ) → AreAbove r.deliv r.stored → is_duplicate r count ≡ true → count ≤ r.deliv → count < r.deliv
unfolding is_duplicate
had_below r count up e l = by (nat_lt count r.deliv) refl e
  where
    by : (b : Bool) → nat_lt count r.deliv ≡ b → (b || is_some (find nat_cmp r.stored count)) ≡ true → count < r.deliv
    by true is h = ltb-true count r.deliv is
    by false is h = let m = found_above r.deliv r.stored count up h in absurd (omega (arith, m, l))

module _ (r : Receiver (List ℕ)) (key : ℕ) (packet : List ℕ) where
  -- after a packet was taken and all was delivered that could be
  pub still_had : (count : ℕ) → is_duplicate r count ≡ true → is_duplicate (deliver (stored r key packet)).after count ≡ true
  unfolding is_duplicate deliver stored
  still_had count e = delivers_had r.deliv (put nat_cmp r.stored key packet) count (put_had r.deliv r.stored key packet count e)

  pub had_now : is_duplicate (deliver (stored r key packet)).after key ≡ true
  unfolding is_duplicate deliver stored
  had_now =
      delivers_had r.deliv (put nat_cmp r.stored key packet) key
      (ap (λ (x : Option (List ℕ)). nat_lt key r.deliv || is_some x) (find-put-same nat_cmp_total r.stored key packet) ∙ or_right (nat_lt key r.deliv) true refl)
