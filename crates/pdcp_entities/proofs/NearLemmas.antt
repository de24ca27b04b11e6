-- The COUNT of a number: the one that the code finds is the one that the definition computes.
use Rattle.std.proofs.Common.{◌≡◌, ℕ, ◌+◌, ◌-◌, ◌%◌, ◌<◌, ◌≤◌, Bool, true, false, cond, ◌||◌, nat_lt, Option, Some, None, refl, sym, ap, ◌∙◌, arith, ◌⊎◌, inl, inr}
use Rattle.std.specs.Prelude.{IfSome, IfNone}
use Rattle.std.proofs.lemmas.Bool.Decides.{nat_tests}
use borrow.Author.Tests.{ltb-true}
use Rattle.gnb_types.specs.declared.names.SnBits.{SnBits}
use Rattle.gnb_types.specs.declared.names.SnBits.TheVariants.{Len12, Len18}
use Rattle.pdcp.specs.Numbers.{space, half}
use Rattle.pdcp.specs.Near.{IsNear, IsRaised, last_count}
use Rattle.pdcp_defs.specs.Counts.{near_count, first_from, lowered}

first_same : (sn : SnBits) (low number : ℕ) → first_from sn low number % space sn ≡ number % space sn
first_same Len12 low number = omega arith
first_same Len18 low number = omega arith

first_low : (sn : SnBits) (low number : ℕ) → low ≤ first_from sn low number
first_low sn low number = omega arith

first_high : (sn : SnBits) (low number : ℕ) → first_from sn low number < low + space sn
first_high Len12 low number = omega arith
first_high Len18 low number = omega arith

-- one COUNT in a space of COUNTs has a number
one_of : (sn : SnBits) (low a b : ℕ) → low ≤ a → a < low + space sn → low ≤ b → b < low + space sn → a % space sn ≡ b % space sn → a ≡ b
one_of Len12 low a b p q r s e = omega arith
one_of Len18 low a b p q r s e = omega arith

space_halves : (sn : SnBits) → space sn ≡ half sn + half sn
space_halves Len12 = refl
space_halves Len18 = refl

raised_same : (sn : SnBits) (c : ℕ) → (c + space sn) % space sn ≡ c % space sn
raised_same Len12 c = omega arith
raised_same Len18 c = omega arith

not_below : (a b : ℕ) → nat_lt a b ≡ false → b ≤ a
not_below a b e = grind (arith, nat_tests)

lowered_is : (sn : SnBits) (count : ℕ) → count ≤ last_count → lowered sn (count + space sn) ≡ Some count
lowered_is sn count h =
    let a : nat_lt (count + space sn) (space sn) ≡ false = above_not (count + space sn) (space sn) (omega arith) in
    let b : nat_lt (last_count + space sn) (count + space sn) ≡ false = above_not (last_count + space sn) (count + space sn) (omega arith) in
    let d : count + space sn - space sn ≡ count = omega arith in
    ap (λ t. cond (t || nat_lt (last_count + space sn) (count + space sn)) None (Some (count + space sn - space sn))) a
    ∙ (ap (λ t. cond t None (Some (count + space sn - space sn))) b ∙ ap (λ n. Some n) d)
  where
    above_not : (a b : ℕ) → b ≤ a → nat_lt a b ≡ false
    above_not a b h = grind (arith, nat_tests)

pub near_found : (sn : SnBits) (deliv number count : ℕ) → near_count sn deliv number ≡ Some count → IsNear sn deliv number count
unfolding near_count
near_found sn deliv number count e = by (nat_lt raised (space sn)) (nat_lt (last_count + space sn) raised) refl refl e
  where
    raised : ℕ
    raised = first_from sn (deliv + half sn) number

    by : (a b : Bool) → nat_lt raised (space sn) ≡ a → nat_lt (last_count + space sn) raised ≡ b
        → cond (a || b) None (Some (raised - space sn)) ≡ Some count → IsNear sn deliv number count
    by true b p q e = cc
    by false true p q e = cc
    by false false p q e =
        let is : raised - space sn ≡ count = cc in
        let above : space sn ≤ raised = not_below raised (space sn) p in
        let within : raised ≤ last_count + space sn = not_below (last_count + space sn) raised q in
        let sum : raised ≡ count + space sn = omega arith in
        let low = first_low sn (deliv + half sn) number in
        let high = first_high sn (deliv + half sn) number in
        let halves = space_halves sn in
        record {
          same = sym (raised_same sn count) ∙ (ap (λ n. n % space sn) (sym sum) ∙ first_same sn (deliv + half sn) number);
          low = omega (arith, low, halves, sum);
          high = omega (arith, high, halves, sum);
          given = omega (arith, within, sum);
        }

-- a COUNT whose raised one is in the space from low on
pub found_from : (sn : SnBits) (low number count : ℕ) → low ≤ count + space sn → count + space sn < low + space sn
    → count % space sn ≡ number % space sn → count ≤ last_count → lowered sn (first_from sn low number) ≡ Some count
found_from sn low number count from to same given =
    let is = one_of sn low (first_from sn low number) (count + space sn) (first_low sn low number) (first_high sn low number) from to
    (first_same sn low number ∙ (sym same ∙ sym (raised_same sn count))) in
    ap (lowered sn) is ∙ lowered_is sn count given

pub near_is : (sn : SnBits) (deliv number count : ℕ) → IsNear sn deliv number count → near_count sn deliv number ≡ Some count
unfolding near_count
near_is sn deliv number count near =
    let halves = space_halves sn in
    found_from sn (deliv + half sn) number count (omega (arith, halves, near.low)) (omega (arith, halves, near.high)) near.same near.given

-- what is found by search is what the definition computes
pub near_agrees : (sn : SnBits) (deliv number : ℕ) (o : Option ℕ) → IfSome o (IsNear sn deliv number)
    → ((count : ℕ) → IsNear sn deliv number count → o ≡ Some count) → near_count sn deliv number ≡ o
near_agrees sn deliv number o found only = by (near_count sn deliv number) refl o found only
  where
    by : (n : Option ℕ) → near_count sn deliv number ≡ n → (o : Option ℕ) → IfSome o (IsNear sn deliv number)
        → ((count : ℕ) → IsNear sn deliv number count → o ≡ Some count) → n ≡ o
    by (Some c) is o found only = sym (only c (near_found sn deliv number c is))
    by None is None found only = refl
    by None is (Some c) found only = sym is ∙ near_is sn deliv number c found

pub same_remainder : (sn : SnBits) (c : ℕ) → c % space sn ≡ c % space sn % space sn
same_remainder Len12 c = omega arith
same_remainder Len18 c = omega arith
