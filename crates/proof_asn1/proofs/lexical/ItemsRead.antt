-- What is the item at the front of a text is read there.
use Rattle.std.proofs.Common.{◌≡◌, ℕ, ◌≤◌, List, [], ◌∷◌, drop, Bool, true, false, cond, ◌||◌, ◌&&◌, refl, sym, ap, ◌∙◌, subst, ℤ, neg_ℤ, arith}
use Rattle.std.specs.Prelude.{◌==◌, nat_eq, nat_le, codes, pos, Option, Some, None}
use Rattle.std.specs.List.{starts_with}
use Rattle.std.proofs.lemmas.Bool.{eq-eqb, leb-true, cond-true, cond-false}
use Rattle.gnb_types.proofs.Choices.{by_test, clash}
use Rattle.asn1_tokens.specs.declared.token.Sign.TheVariants as signs
use Rattle.asn1_tokens.specs.declared.token.Token.{Token}
use Rattle.asn1_tokens.specs.declared.token.Token.TheVariants as tokens
use Rattle.asn1_tokens.specs.Scan.{is_upper, is_lower, is_digit, begins, after_name, before, magnitude, Lexeme, lexeme, name_token, lexeme_or, long_sign, short_sign, number_lexeme, lexeme_at}
use Rattle.asn1_defs.specs.Items.{IsName, IsNumber, IsLongest, is_short, begins_item, IsItem}
use Rattle.asn1_defs.specs.Items as item
use Rattle.proof_asn1.proofs.lexical.LexicalLemmas.{name_longest, number_longest}
use Rattle.proof_asn1.proofs.lexical.Items.{sign_front}
use Rattle.proof_asn1.proofs.lexical.Longest.{one_longest, front_before, name_begins, no_name, number_begins, no_number}

neither : (a b : Bool) → (a || b) ≡ false → (a ≡ false) × (b ≡ false)
neither true b h = cc
neither false b h = (refl, h)

-- a name
letter_read : (c : ℕ) (cs : List ℕ) → is_upper c || is_lower c ≡ true → lexeme_at (c ∷ cs) ≡ lexeme (name_token (before (c ∷ cs) (after_name (c ∷ cs)))) (after_name (c ∷ cs))
unfolding lexeme_at
letter_read c cs h = cond-true (is_upper c || is_lower c) _ _ h

name_read : (text : List ℕ) {rest : List ℕ} (found : IsLongest IsName text rest) → lexeme_at text ≡ lexeme (name_token found.front) rest
name_read [] found = absurd (no_name found)
name_read (c ∷ cs) {rest} found =
    letter_read c cs letter
    ∙ ap (λ (r : List ℕ). lexeme (name_token (before (c ∷ cs) r)) r) (one_longest (name_longest c cs letter) found)
    ∙ ap (λ (front : List ℕ). lexeme (name_token front) rest) (front_before found)
  where
    letter : is_upper c || is_lower c ≡ true
    letter = name_begins c cs found

-- a digit is no letter
too_small : (k c : ℕ) (b : Bool) → c ≤ 57 → 58 ≤ k → nat_le k c && b ≡ false
too_small k c b low high = ap (λ (a : Bool). a && b) (by_test (nat_le k c ≡ false) (nat_le k c) (λ h. absurd (omega (arith, leb-true k c h, low, high))) (λ h. h))

no_letter : (c : ℕ) → is_digit c ≡ true → is_upper c || is_lower c ≡ false
no_letter c h = λ i. too_small 65 c (nat_le c 90) low (omega arith) i || too_small 97 c (nat_le c 122) low (omega arith) i
  where
    right : (a b : Bool) → (a && b) ≡ true → b ≡ true
    right true b e = e
    right false b e = cc

    low : c ≤ 57
    low = leb-true c 57 (right (nat_le 48 c) (nat_le c 57) h)

-- a number
digits_read : (text rest : List ℕ) (negative : Bool) (found : IsLongest IsNumber text rest) → number_lexeme negative text ≡ lexeme (tokens.Number (cond negative (neg_ℤ (pos (magnitude found.front))) (pos (magnitude found.front)))) rest
unfolding number_lexeme
digits_read [] rest negative found = absurd (no_number found)
digits_read (c ∷ cs) rest negative found =
    ap (λ (r : List ℕ). lexeme (tokens.Number (value (before (c ∷ cs) r))) r) (one_longest (number_longest c cs (number_begins c cs found)) found)
    ∙ ap (λ (front : List ℕ). lexeme (tokens.Number (value front)) rest) (front_before found)
  where
    value : List ℕ → ℤ
    value front = cond negative (neg_ℤ (pos (magnitude front))) (pos (magnitude front))

digit_read : (c : ℕ) (cs : List ℕ) → is_digit c ≡ true → lexeme_at (c ∷ cs) ≡ number_lexeme false (c ∷ cs)
unfolding lexeme_at
digit_read c cs h = cond-false (is_upper c || is_lower c) _ _ (no_letter c h) ∙ cond-true (is_digit c) _ _ h

number_read : (text : List ℕ) {rest : List ℕ} (found : IsLongest IsNumber text rest) → lexeme_at text ≡ lexeme (tokens.Number (pos (magnitude found.front))) rest
number_read [] found = absurd (no_number found)
number_read (c ∷ cs) {rest} found = digit_read c cs (number_begins c cs found) ∙ digits_read (c ∷ cs) rest false found

minus_read : (cs : List ℕ) → begins is_digit cs ≡ true → lexeme_at (45 ∷ cs) ≡ number_lexeme true cs
unfolding lexeme_at
minus_read cs h = cond-true (begins is_digit cs) _ _ h

negative_read : (text : List ℕ) {rest : List ℕ} (found : IsLongest IsNumber text rest) → lexeme_at (45 ∷ text) ≡ lexeme (tokens.Number (neg_ℤ (pos (magnitude found.front)))) rest
negative_read [] found = absurd (no_number found)
negative_read (c ∷ cs) {rest} found = minus_read (c ∷ cs) (number_begins c cs found) ∙ digits_read (c ∷ cs) rest true found

-- signs
ellipsis_not_range : (rest : List ℕ) → begins (λ c. c == 46) rest ≡ false → starts_with nat_eq (46 ∷ 46 ∷ rest) (codes "...") ≡ false
ellipsis_not_range [] h = refl
ellipsis_not_range (c ∷ cs) h = by_test (starts_with nat_eq (46 ∷ 46 ∷ c ∷ cs) (codes "...") ≡ false) (starts_with nat_eq (46 ∷ 46 ∷ c ∷ cs) (codes "...")) (λ e. absurd (third e)) (λ e. e)
  where
    same : 46 ∷ 46 ∷ c ∷ cs ≡ 46 ∷ 46 ∷ 46 ∷ cs → c ≡ 46
    same e = cc

    third : starts_with nat_eq (46 ∷ 46 ∷ c ∷ cs) (codes "...") ≡ true → ⊥
    third e = clash (c == 46) (eq-eqb c 46 (same (sign_front (46 ∷ 46 ∷ c ∷ cs) (codes "...") e))) h

range_read : (rest : List ℕ) → begins (λ c. c == 46) rest ≡ false → lexeme_at (46 ∷ 46 ∷ rest) ≡ lexeme (tokens.Sign signs.Range) rest
unfolding lexeme_at long_sign
range_read rest h = ap (λ (b : Bool). lexeme_or (cond b (Some (lexeme (tokens.Sign signs.Ellipsis) (drop 1 rest))) (Some (lexeme (tokens.Sign signs.Range) rest))) (lexeme (short_sign 46) (46 ∷ rest))) (ellipsis_not_range rest h)

-- nothing
passes : {X : Type 0} (b others : Bool) (x y z : X) → (b || others) ≡ false → (others ≡ false → y ≡ z) → cond b x y ≡ z
passes true others x y z h on = cc
passes false others x y z h on = on h

no_short : (c : ℕ) → is_short c ≡ false → short_sign c ≡ tokens.Nothing
unfolding short_sign
no_short c h =
    passes (c == 123) _ _ _ _ h (λ h.
    passes (c == 125) _ _ _ _ h (λ h.
    passes (c == 40) _ _ _ _ h (λ h.
    passes (c == 41) _ _ _ _ h (λ h.
    passes (c == 44) _ _ _ _ h (λ h.
    passes (c == 124) _ _ _ _ h (λ h.
    cond-false (c == 91) _ _ h))))))

no_ellipsis : (text : List ℕ) → starts_with nat_eq text (codes "..") ≡ false → starts_with nat_eq text (codes "...") ≡ false
no_ellipsis text h = by_test (starts_with nat_eq text (codes "...") ≡ false) (starts_with nat_eq text (codes "...")) (λ e. absurd (clash (starts_with nat_eq text (codes "..")) (two e) h)) (λ e. e)
  where
    two : starts_with nat_eq text (codes "...") ≡ true → starts_with nat_eq text (codes "..") ≡ true
    two e = subst (λ (xs : List ℕ). starts_with nat_eq xs (codes "..") ≡ true) (sym (sign_front text (codes "...") e)) refl

no_long : (text : List ℕ) → starts_with nat_eq text (codes "::=") ≡ false → starts_with nat_eq text (codes "..") ≡ false → long_sign text ≡ None
unfolding long_sign
no_long text a r = cond-false (starts_with nat_eq text (codes "::=")) _ _ a ∙ cond-false (starts_with nat_eq text (codes "...")) _ _ (no_ellipsis text r) ∙ cond-false (starts_with nat_eq text (codes "..")) _ _ r

no_sign : (c : ℕ) (cs : List ℕ) → (starts_with nat_eq (c ∷ cs) (codes "::=") || (starts_with nat_eq (c ∷ cs) (codes "..") || is_short c)) ≡ false → lexeme_or (long_sign (c ∷ cs)) (lexeme (short_sign c) cs) ≡ lexeme tokens.Nothing cs
no_sign c cs h = go (neither _ _ h)
  where
    last : (starts_with nat_eq (c ∷ cs) (codes "::=") ≡ false) → (starts_with nat_eq (c ∷ cs) (codes "..") ≡ false) × (is_short c ≡ false) → lexeme_or (long_sign (c ∷ cs)) (lexeme (short_sign c) cs) ≡ lexeme tokens.Nothing cs
    last a (r, s) = ap (λ (found : Option Lexeme). lexeme_or found (lexeme (short_sign c) cs)) (no_long (c ∷ cs) a r) ∙ ap (λ (t : Token). lexeme t cs) (no_short c s)

    go : (starts_with nat_eq (c ∷ cs) (codes "::=") ≡ false) × ((starts_with nat_eq (c ∷ cs) (codes "..") || is_short c) ≡ false) → lexeme_or (long_sign (c ∷ cs)) (lexeme (short_sign c) cs) ≡ lexeme tokens.Nothing cs
    go (a, rest) = last a (neither _ _ rest)

nothing_read : (c : ℕ) (cs : List ℕ) → begins_item c cs ≡ false → lexeme_at (c ∷ cs) ≡ lexeme tokens.Nothing cs
unfolding lexeme_at
nothing_read c cs h =
    passes (is_upper c || is_lower c) _ _ _ _ h (λ h.
    passes (is_digit c) _ _ _ _ h (λ h.
    passes ((c == 45) && begins is_digit cs) _ _ _ _ h (no_sign c cs)))

-- the item at the front is read
pub item_read : {text rest : List ℕ} {token : Token} → IsItem text token rest → lexeme_at text ≡ lexeme token rest
unfolding lexeme_at long_sign short_sign
item_read (item.name {text} found) = name_read text found
item_read (item.number {text} found) = number_read text found
item_read (item.negative {text} found) = negative_read text found
item_read (item.range {rest} h) = range_read rest h
item_read (item.nothing {c} {rest} h) = nothing_read c rest h
item_read item.assignment = refl
item_read item.ellipsis = refl
item_read item.left_brace = refl
item_read item.right_brace = refl
item_read item.left_parenthesis = refl
item_read item.right_parenthesis = refl
item_read item.comma = refl
item_read item.bar = refl
item_read item.left_out = refl
item_read item.at_end = refl
