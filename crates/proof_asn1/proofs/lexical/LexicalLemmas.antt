-- Names and numbers are read as long as they can be.
use Rattle.std.proofs.Common.{◌≡◌, ℕ, ◌≤◌, List, [], ◌∷◌, ◌++◌, length, Bool, true, false, cond, ◌||◌, ◌&&◌, eqb, refl, sym, ap, ◌∙◌, subst, inl, inr, arith}
use Rattle.std.specs.Prelude.{◌⊎◌, ◌==◌}
use Rattle.std.proofs.lemmas.Bool.{eqb-true}
use Rattle.gnb_types.proofs.Choices.{by_test, clash}
use Rattle.asn1_tokens.specs.Scan.{is_upper, is_lower, is_digit, is_name_part, begins, goes_on, after_name, after_digits, after_number}
use Rattle.asn1_defs.specs.Items.{IsNameRest, IsName, AreDigits, IsNumber, IsLongest}

eqb-refl : (n : ℕ) → eqb n n ≡ true
eqb-refl n = by_test (eqb n n ≡ true) (eqb n n) (λ h. h) (λ h. grind arith)

-- the cases of a character that goes on with a name
goes_cases : (c : ℕ) (cs : List ℕ) → goes_on c cs ≡ true → (is_name_part c ≡ true) ⊎ ((c ≡ 45) × (begins is_name_part cs ≡ true))
goes_cases c cs h = go (is_name_part c) (c == 45) (begins is_name_part cs) h (λ e. eqb-true c 45 e)
  where
    go : (a b d : Bool) → (a || (b && d)) ≡ true → (b ≡ true → c ≡ 45) → (a ≡ true) ⊎ ((c ≡ 45) × (d ≡ true))
    go true b d e k = inl refl
    go false true d e k = inr (k refl, e)
    go false false d e k = cc

part_goes : (c : ℕ) (cs : List ℕ) → is_name_part c ≡ true → goes_on c cs ≡ true
part_goes c cs h = ap (λ (a : Bool). a || ((c == 45) && begins is_name_part cs)) h

hyphen_goes : (c : ℕ) (cs : List ℕ) → c ≡ 45 → begins is_name_part cs ≡ true → goes_on c cs ≡ true
hyphen_goes c cs is h = go (is_name_part c) (c == 45) (begins is_name_part cs) (ap (λ (n : ℕ). eqb n 45) is ∙ eqb-refl 45) h
  where
    go : (a b d : Bool) → b ≡ true → d ≡ true → (a || (b && d)) ≡ true
    go true b d p q = refl
    go false true d p q = q
    go false false d p q = cc

-- how what follows is read
after_step : (c : ℕ) (cs : List ℕ) → goes_on c cs ≡ true → after_name (c ∷ cs) ≡ after_name cs
unfolding after_name
after_step c cs h = ap (λ (b : Bool). cond b (after_name cs) (c ∷ cs)) h

after_stop : (c : ℕ) (cs : List ℕ) → goes_on c cs ≡ false → after_name (c ∷ cs) ≡ c ∷ cs
unfolding after_name
after_stop c cs h = ap (λ (b : Bool). cond b (after_name cs) (c ∷ cs)) h

after_name-le : (cs : List ℕ) → length (after_name cs) ≤ length cs
unfolding after_name
after_name-le [] = omega arith
after_name-le (c ∷ cs) = by_test (length (after_name (c ∷ cs)) ≤ length (c ∷ cs)) (goes_on c cs)
    (λ h. omega (arith, ap length (after_step c cs h), after_name-le cs))
    (λ h. omega (arith, ap length (after_stop c cs h)))

no_more : (more after : List ℕ) → [] ≡ more ++ after → more ≡ []
no_more [] after h = refl
no_more (m ∷ more) after h = cc

-- what a name goes on with begins as the text does
front_begins : (cs front : List ℕ) → cs ≡ front ++ after_name cs → begins is_name_part cs ≡ true → begins is_name_part front ≡ true
front_begins [] front split h = cc
front_begins (d ∷ ds) [] split h = absurd (omega (arith, ap length split, ap length (after_step d ds (part_goes d ds h)), after_name-le ds))
front_begins (d ∷ ds) (f ∷ front) split h = subst (λ (n : ℕ). is_name_part n ≡ true) (head_same split) h
  where
    head_same : d ∷ ds ≡ (f ∷ front) ++ after_name (d ∷ ds) → d ≡ f
    head_same e = cc

tail_of : (c : ℕ) (cs : List ℕ) → IsNameRest (c ∷ cs) → IsNameRest cs
tail_of c cs (inl h) = h.1
tail_of c cs (inr h) = h.2

stops : (c : ℕ) (cs more after : List ℕ) → goes_on c cs ≡ false → c ∷ cs ≡ more ++ after → IsNameRest more → more ≡ []
stops c cs [] after no_step split is = refl
stops c cs (m ∷ more) after no_step split is = absurd (go is)
  where
    head_same : m ≡ c
    head_same = cc

    tail_same : cs ≡ more ++ after
    tail_same = cc

    begun : (xs : List ℕ) → begins is_name_part xs ≡ true → begins is_name_part (xs ++ after) ≡ true
    begun [] h = cc
    begun (x ∷ xs) h = h

    go : IsNameRest (m ∷ more) → ⊥
    go (inl h) = clash (goes_on c cs) (part_goes c cs (subst (λ (n : ℕ). is_name_part n ≡ true) head_same h.0)) no_step
    go (inr h) = clash (goes_on c cs) (hyphen_goes c cs (sym head_same ∙ h.0) (subst (λ (xs : List ℕ). begins is_name_part xs ≡ true) (sym tail_same) (begun more h.1))) no_step

empty_longest : IsLongest IsNameRest [] (after_name [])
unfolding after_name
empty_longest = record { front = []; split = refl; is = tt; longest = λ more after e _. no_more more after e }

-- what follows a name's first letter is as long as it can be
rest_longest : (cs : List ℕ) → IsLongest IsNameRest cs (after_name cs)
rest_longest [] = empty_longest
rest_longest (c ∷ cs) = by_test (IsLongest IsNameRest (c ∷ cs) (after_name (c ∷ cs))) (goes_on c cs)
    (λ h. let inner = rest_longest cs in
    subst (IsLongest IsNameRest (c ∷ cs)) (sym (after_step c cs h))
    (record {
      front = c ∷ inner.front;
      split = ap (λ (xs : List ℕ). c ∷ xs) inner.split;
      is = goes inner (goes_cases c cs h);
      longest = λ more after e is. inner.longest more after e (tail_of c (inner.front ++ more) is);
    }))
    (λ h. subst (IsLongest IsNameRest (c ∷ cs)) (sym (after_stop c cs h))
    (record { front = []; split = refl; is = tt; longest = λ more after e is. stops c cs more after h e is }))
  where
    goes : (inner : IsLongest IsNameRest cs (after_name cs)) → (is_name_part c ≡ true) ⊎ ((c ≡ 45) × (begins is_name_part cs ≡ true)) → IsNameRest (c ∷ inner.front)
    goes inner (inl h) = inl (h, inner.is)
    goes inner (inr h) = inr (h.0, front_begins cs inner.front inner.split h.1, inner.is)

letter_part : (u l d : Bool) → (u || l) ≡ true → (u || (l || d)) ≡ true
letter_part true l d h = refl
letter_part false true d h = refl
letter_part false false d h = cc

-- a name is as long as it can be
pub name_longest : (c : ℕ) (cs : List ℕ) → is_upper c || is_lower c ≡ true → IsLongest IsName (c ∷ cs) (after_name (c ∷ cs))
name_longest c cs h =
    let inner = rest_longest cs in
    subst (IsLongest IsName (c ∷ cs)) (sym (after_step c cs (part_goes c cs (letter_part (is_upper c) (is_lower c) (is_digit c) h))))
    (record {
      front = c ∷ inner.front;
      split = ap (λ (xs : List ℕ). c ∷ xs) inner.split;
      is = (h, inner.is);
      longest = λ more after e is. inner.longest more after e is.1;
    })

digits_step : (c : ℕ) (cs : List ℕ) → is_digit c ≡ true → after_digits (c ∷ cs) ≡ after_digits cs
unfolding after_digits
digits_step c cs h = ap (λ (b : Bool). cond b (after_digits cs) (c ∷ cs)) h

digits_stop : (c : ℕ) (cs : List ℕ) → is_digit c ≡ false → after_digits (c ∷ cs) ≡ c ∷ cs
unfolding after_digits
digits_stop c cs h = ap (λ (b : Bool). cond b (after_digits cs) (c ∷ cs)) h

no_digits : IsLongest AreDigits [] (after_digits [])
unfolding after_digits
no_digits = record { front = []; split = refl; is = tt; longest = λ more after e _. no_more more after e }

digits_end : (c : ℕ) (cs more after : List ℕ) → is_digit c ≡ false → c ∷ cs ≡ more ++ after → AreDigits more → more ≡ []
digits_end c cs [] after h split is = refl
digits_end c cs (m ∷ more) after h split is = absurd (clash (is_digit c) (subst (λ (n : ℕ). is_digit n ≡ true) same is.0) h)
  where
    same : m ≡ c
    same = cc

digits_longest : (cs : List ℕ) → IsLongest AreDigits cs (after_digits cs)
digits_longest [] = no_digits
digits_longest (c ∷ cs) = by_test (IsLongest AreDigits (c ∷ cs) (after_digits (c ∷ cs))) (is_digit c)
    (λ h. let inner = digits_longest cs in
    subst (IsLongest AreDigits (c ∷ cs)) (sym (digits_step c cs h))
    (record { front = c ∷ inner.front; split = ap (λ (xs : List ℕ). c ∷ xs) inner.split; is = (h, inner.is); longest = λ more after e is. inner.longest more after e is.1 }))
    (λ h. subst (IsLongest AreDigits (c ∷ cs)) (sym (digits_stop c cs h))
    (record { front = []; split = refl; is = tt; longest = λ more after e is. digits_end c cs more after h e is }))

zero_step : (c : ℕ) (cs : List ℕ) → c ≡ 48 → after_number (c ∷ cs) ≡ cs
unfolding after_number
zero_step c cs is = ap (λ (b : Bool). cond b cs (after_digits cs)) (ap (λ (n : ℕ). eqb n 48) is ∙ eqb-refl 48)

other_step : (c : ℕ) (cs : List ℕ) → eqb c 48 ≡ false → after_number (c ∷ cs) ≡ after_digits cs
unfolding after_number
other_step c cs h = ap (λ (b : Bool). cond b cs (after_digits cs)) h

-- a number is as long as it can be
pub number_longest : (c : ℕ) (cs : List ℕ) → is_digit c ≡ true → IsLongest IsNumber (c ∷ cs) (after_number (c ∷ cs))
number_longest c cs h = by_test (IsLongest IsNumber (c ∷ cs) (after_number (c ∷ cs))) (eqb c 48)
    (λ zero. subst (IsLongest IsNumber (c ∷ cs)) (sym (zero_step c cs (eqb-true c 48 zero)))
    (record { front = c ∷ []; split = refl; is = inl (eqb-true c 48 zero, refl); longest = λ more after e is. alone more (eqb-true c 48 zero) is }))
    (λ other. let inner = digits_longest cs in
    subst (IsLongest IsNumber (c ∷ cs)) (sym (other_step c cs other))
    (record {
      front = c ∷ inner.front;
      split = ap (λ (xs : List ℕ). c ∷ xs) inner.split;
      is = inr (not_zero other, (h, inner.is));
      longest = λ more after e is. inner.longest more after e (digits_of (inner.front ++ more) other is);
    }))
  where
    alone : (more : List ℕ) → c ≡ 48 → IsNumber ((c ∷ []) ++ more) → more ≡ []
    alone more is (inl n) = n.1
    alone more is (inr n) = absurd (n.0 is)

    not_zero : eqb c 48 ≡ false → c ≡ 48 → ⊥
    not_zero other is = clash (eqb c 48) (ap (λ (n : ℕ). eqb n 48) is ∙ eqb-refl 48) other

    digits_of : (xs : List ℕ) → eqb c 48 ≡ false → IsNumber (c ∷ xs) → AreDigits xs
    digits_of xs other (inl n) = absurd (not_zero other n.0)
    digits_of xs other (inr n) = n.1.1
