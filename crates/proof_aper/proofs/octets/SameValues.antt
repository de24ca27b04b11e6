-- The test of two values tells whether they are the same.
use Rattle.std.proofs.Common.{◌≡◌, ℕ, Bool, true, false, List, refl, ap, ◌∙◌}
use Rattle.std.specs.Prelude.{◌&&◌, ◌==◌, nat_eq, ℤ}
use Rattle.std.specs.Ordering.{int_eq}
use Rattle.std.specs.Bool.{beq}
use Rattle.std.specs.Cmp.{unsigned_Decides, signed_Decides, booleans_Decides}
use Rattle.std.specs.Cmp.Lexicographic.{pointwise, pointwise_decides}
use Rattle.aper_defs.specs.Values.{Value, Values, Options, Ies, truth, number, enumeral, bits, octets, text, components, chosen, list, elements, message, raw, no_values, value, no_options, absent, present, no_ies, ie}
use Rattle.proof_aper.proofs.answers.NumberFacts.{first_of_both, second_of_both}
use Rattle.aper_defs.specs.octet_defs.SameValues.{same_value, same_values, same_options, same_ies}

differ : {A : Type 0} → (let b : Bool = false in b) ≡ true → A
differ h = absurd (never h)
  where
    never : (let b : Bool = false in b) ≡ true → ⊥
    never e = cc

both : (a b : Bool) → a ≡ true → b ≡ true → (a && b) ≡ true
both a b h k = ap (λ (x : Bool). x && b) h ∙ k

ap2 : {A B C : Type 0} (f : A → B → C) {a x : A} {b y : B} → a ≡ x → b ≡ y → f a b ≡ f x y
ap2 f {a = a} {x = x} {b = b} {y = y} p q = ap (λ z. f z b) p ∙ ap (f x) q

number_is : (a b : ℕ) → (a == b) ≡ true → a ≡ b
number_is a b = (unsigned_Decides a b).0

number_itself : (a : ℕ) → (a == a) ≡ true
number_itself a = (unsigned_Decides a a).1 refl

numbers_are : (xs ys : List ℕ) → pointwise nat_eq xs ys ≡ true → xs ≡ ys
numbers_are xs ys = (pointwise_decides unsigned_Decides xs ys).0

numbers_itself : (xs : List ℕ) → pointwise nat_eq xs xs ≡ true
numbers_itself xs = (pointwise_decides unsigned_Decides xs xs).1 refl

mutual
  unfolding same_value same_values same_options same_ies

  pub value_is : (v w : Value) → same_value v w ≡ true → v ≡ w
  value_is (truth a) (truth b) h = ap truth ((booleans_Decides a b).0 h)
  value_is (number a) (number b) h = ap number ((signed_Decides a b).0 h)
  value_is (enumeral i) (enumeral j) h = ap enumeral (number_is i j h)
  value_is (bits xs) (bits ys) h = ap bits ((pointwise_decides booleans_Decides xs ys).0 h)
  value_is (octets xs) (octets ys) h = ap octets (numbers_are xs ys h)
  value_is (text xs) (text ys) h = ap text (numbers_are xs ys h)
  value_is (components root more) (components other others) h =
      let front = same_options root other in
      let back = same_options more others in
      ap2 components (options_are root other (first_of_both front back h)) (options_are more others (second_of_both front back h))
  value_is (chosen i v) (chosen j w) h =
      ap2 chosen (number_is i j (first_of_both (i == j) (same_value v w) h)) (value_is v w (second_of_both (i == j) (same_value v w) h))
  value_is (list vs) (list ws) h = ap list (values_are vs ws h)
  value_is (elements xs) (elements ys) h = ap elements (ies_are xs ys h)
  value_is (message o c k v) (message p d l w) h =
      let two = o == p && c == d in
      let three = two && k == l in
      let g : three ≡ true = first_of_both three (same_value v w) h in
      let f : two ≡ true = first_of_both two (k == l) g in
      ap (λ (n : ℕ). message n c k v) (number_is o p (first_of_both (o == p) (c == d) f))
      ∙ ap (λ (n : ℕ). message p n k v) (number_is c d (second_of_both (o == p) (c == d) f))
      ∙ ap2 (message p d) (number_is k l (second_of_both two (k == l) g)) (value_is v w (second_of_both three (same_value v w) h))
  value_is (raw xs) (raw ys) h = ap raw (numbers_are xs ys h)
  value_is v w h = differ h

  values_are : (vs ws : Values) → same_values vs ws ≡ true → vs ≡ ws
  values_are no_values no_values h = refl
  values_are (value v vs) (value w ws) h =
      ap2 value (value_is v w (first_of_both (same_value v w) (same_values vs ws) h))
      (values_are vs ws (second_of_both (same_value v w) (same_values vs ws) h))
  values_are vs ws h = differ h

  options_are : (vs ws : Options) → same_options vs ws ≡ true → vs ≡ ws
  options_are no_options no_options h = refl
  options_are (absent vs) (absent ws) h = ap absent (options_are vs ws h)
  options_are (present v vs) (present w ws) h =
      ap2 present (value_is v w (first_of_both (same_value v w) (same_options vs ws) h))
      (options_are vs ws (second_of_both (same_value v w) (same_options vs ws) h))
  options_are vs ws h = differ h

  ies_are : (vs ws : Ies) → same_ies vs ws ≡ true → vs ≡ ws
  ies_are no_ies no_ies h = refl
  ies_are (ie i k v vs) (ie j l w ws) h =
      let two = i == j && k == l in
      let three = two && same_value v w in
      let g : three ≡ true = first_of_both three (same_ies vs ws) h in
      let f : two ≡ true = first_of_both two (same_value v w) g in
      ap (λ (n : ℕ). ie n k v vs) (number_is i j (first_of_both (i == j) (k == l) f))
      ∙ ap (λ (n : ℕ). ie j n v vs) (number_is k l (second_of_both (i == j) (k == l) f))
      ∙ ap2 (ie j l) (value_is v w (second_of_both two (same_value v w) g)) (ies_are vs ws (second_of_both three (same_ies vs ws) h))
  ies_are vs ws h = differ h

mutual
  unfolding same_value same_values same_options same_ies

  pub value_itself : (v : Value) → same_value v v ≡ true
  value_itself (truth a) = (booleans_Decides a a).1 refl
  value_itself (number a) = (signed_Decides a a).1 refl
  value_itself (enumeral i) = number_itself i
  value_itself (bits xs) = (pointwise_decides booleans_Decides xs xs).1 refl
  value_itself (octets xs) = numbers_itself xs
  value_itself (text xs) = numbers_itself xs
  value_itself (components root more) = both (same_options root root) (same_options more more) (options_itself root) (options_itself more)
  value_itself (chosen i v) = both (i == i) (same_value v v) (number_itself i) (value_itself v)
  value_itself (list vs) = values_itself vs
  value_itself (elements xs) = ies_itself xs
  value_itself (message o c k v) =
      let two = o == o && c == c in
      let f : two ≡ true = both (o == o) (c == c) (number_itself o) (number_itself c) in
      both (two && k == k) (same_value v v) (both two (k == k) f (number_itself k)) (value_itself v)
  value_itself (raw xs) = numbers_itself xs

  values_itself : (vs : Values) → same_values vs vs ≡ true
  values_itself no_values = refl
  values_itself (value v vs) = both (same_value v v) (same_values vs vs) (value_itself v) (values_itself vs)

  options_itself : (vs : Options) → same_options vs vs ≡ true
  options_itself no_options = refl
  options_itself (absent vs) = options_itself vs
  options_itself (present v vs) = both (same_value v v) (same_options vs vs) (value_itself v) (options_itself vs)

  ies_itself : (vs : Ies) → same_ies vs vs ≡ true
  ies_itself no_ies = refl
  ies_itself (ie i k v vs) =
      let two = i == i && k == k in
      let f : two ≡ true = both (i == i) (k == k) (number_itself i) (number_itself k) in
      both (two && same_value v v) (same_ies vs vs) (both two (same_value v v) f (value_itself v)) (ies_itself vs)
