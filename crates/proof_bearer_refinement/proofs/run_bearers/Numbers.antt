-- Places of contexts can be numbered: pairs of numbers are counted along diagonals.
use Rattle.std.proofs.Common.{◌≡◌, ℕ, zero, suc, ◌+◌, Option, Some, None, refl, sym, ap, ◌∙◌, arith}
use Rattle.gnb_types.specs.declared.names.Gnb.{Gnb}
use Rattle.gnb_types.specs.declared.names.Gnb.TheVariants.{A, B}
use Rattle.proof_bearer_refinement.specs.run_bearers.Bearers.{Place, Numbering}

triangle : ℕ → ℕ
triangle zero = 0
triangle (suc n) = suc n + triangle n

pair : ℕ → ℕ → ℕ
pair a b = triangle (a + b) + a

next : ℕ → ℕ → ℕ × ℕ
next a zero = (0, suc a)
next a (suc b) = (suc a, b)

unpair : ℕ → ℕ × ℕ
unpair zero = (0, 0)
unpair (suc n) = next (unpair n).0 (unpair n).1

pair_next : (a b : ℕ) → pair (next a b).0 (next a b).1 ≡ suc (pair a b)
unfolding pair next triangle
pair_next a zero =
    let e : 0 + suc a ≡ suc a = omega arith in
    let f : a + 0 ≡ a = omega arith in
    let g : triangle (0 + suc a) ≡ suc a + triangle a = ap triangle e in
    let h : triangle (a + 0) ≡ triangle a = ap triangle f in omega (arith, g, h)
pair_next a (suc b) =
    let e : suc a + b ≡ a + suc b = omega arith in
    let g : triangle (suc a + b) ≡ triangle (a + suc b) = ap triangle e in omega (arith, g)

pair_none : pair 0 0 ≡ 0
unfolding pair triangle
pair_none = refl

pair_back : (x : ℕ) → pair (unpair x).0 (unpair x).1 ≡ x
unfolding unpair
pair_back zero = pair_none
pair_back (suc n) = pair_next (unpair n).0 (unpair n).1 ∙ ap (λ k. suc k) (pair_back n)

along : (s : ℕ) → unpair (triangle s) ≡ (0, s) → (a b : ℕ) → a + b ≡ s → unpair (triangle s + a) ≡ (a, b)
unfolding unpair next
along s start zero b e =
    let f : triangle s + 0 ≡ triangle s = omega arith in
    let g : s ≡ b = omega (arith, e) in
    ap unpair f ∙ start ∙ ap (λ (k : ℕ). (0, k)) g
along s start (suc a) b e =
    let f : triangle s + suc a ≡ suc (triangle s + a) = omega arith in
    let h : a + suc b ≡ s = omega (arith, e) in
    ap unpair f ∙ ap (λ (q : ℕ × ℕ). next q.0 q.1) (along s start a (suc b) h)

at_start : (s : ℕ) → unpair (triangle s) ≡ (0, s)
unfolding unpair next triangle
at_start zero = refl
at_start (suc s) =
    let f : suc s + triangle s ≡ suc (triangle s + s) = omega arith in
    let h : s + 0 ≡ s = omega arith in
    ap unpair f ∙ ap (λ (q : ℕ × ℕ). next q.0 q.1) (along s (at_start s) s 0 h)

pair_found : (a b : ℕ) → unpair (pair a b) ≡ (a, b)
unfolding pair
pair_found a b = along (a + b) (at_start (a + b)) a b refl

-- ---- places

code : Gnb → ℕ
code A = 0
code B = 1

gnb_of : ℕ → Option Gnb
gnb_of zero = Some A
gnb_of (suc zero) = Some B
gnb_of (suc (suc n)) = None

place_with : Option Gnb → ℕ → ℕ → Option Place
place_with None number instance = None
place_with (Some gnb) number instance = Some (record { gnb = gnb; number = number; instance = instance })

number_of : Place → ℕ
number_of place = pair (pair (code place.gnb) place.number) place.instance

place_at : ℕ × ℕ → ℕ → Option Place
place_at r instance = place_with (gnb_of r.0) r.1 instance

place_in : ℕ × ℕ → Option Place
place_in q = place_at (unpair q.0) q.1

code_found : (gnb : Gnb) (number instance : ℕ)
    → place_with (gnb_of (code gnb)) number instance ≡ Some (record { gnb = gnb; number = number; instance = instance })
unfolding code gnb_of place_with
code_found A number instance = refl
code_found B number instance = refl

number_found : (place : Place) → place_in (unpair (number_of place)) ≡ Some place
unfolding number_of place_in place_at
number_found place =
    ap place_in (pair_found (pair (code place.gnb) place.number) place.instance)
    ∙ ap (λ (r : ℕ × ℕ). place_at r place.instance) (pair_found (code place.gnb) place.number)
    ∙ code_found place.gnb place.number place.instance

number_back : (x : ℕ) (place : Place) → place_in (unpair x) ≡ Some place → number_of place ≡ x
unfolding number_of place_in place_at place_with gnb_of code
number_back x place is = by (unpair (unpair x).0).0 refl is
  where
    r : ℕ
    r = (unpair (unpair x).0).1

    i : ℕ
    i = (unpair x).1

    whole : (c : ℕ) → (unpair (unpair x).0).0 ≡ c → pair (pair c r) i ≡ x
    whole c e = ap (λ k. pair (pair k r) i) (sym e) ∙ ap (λ k. pair k i) (pair_back (unpair x).0) ∙ pair_back x

    by : (c : ℕ) → (unpair (unpair x).0).0 ≡ c → place_with (gnb_of c) r i ≡ Some place → number_of place ≡ x
    by zero e h = let same : record { gnb = A; number = r; instance = i } ≡ place = cc in ap number_of (sym same) ∙ whole 0 e
    by (suc zero) e h = let same : record { gnb = B; number = r; instance = i } ≡ place = cc in ap number_of (sym same) ∙ whole 1 e
    by (suc (suc n)) e h = absurd cc

pub numbering : Numbering
numbering = record {
  number_of = number_of;
  place_of = λ x. place_in (unpair x);
  found = number_found;
  back = number_back;
}
