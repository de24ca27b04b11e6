-- Every item but the last takes octets, so the fuel of a scan is enough.
use Rattle.std.proofs.Common.{◌≡◌, ℕ, zero, suc, ◌<◌, ◌≤◌, List, [], ◌∷◌, length, Bool, true, false, cond, ◌||◌, ◌&&◌, refl, sym, ap, ◌∙◌, subst, arith, length-drop, Option, Some, None}
use Rattle.std.specs.Prelude.{nat_eq, ◌==◌, codes}
use Rattle.std.specs.List.{starts_with}
use Rattle.gnb_types.proofs.Choices.{by_choice}
use Rattle.asn1_tokens.specs.declared.token.Token.{Token}
use Rattle.asn1_tokens.specs.declared.scan.Gap.{Gap}
use Rattle.asn1_tokens.specs.declared.scan.Gap.TheVariants.{Between}
use Rattle.asn1_tokens.specs.Scan.{is_upper, is_lower, is_digit, begins, next_gap, gap_rest, after_gap, goes_on, after_name, after_digits, after_number, Lexeme, lexeme, lexeme_or, long_sign, short_sign, number_lexeme, lexeme_at}
use Rattle.asn1_tokens.specs.Stream.{Placed, placed, is_last, scan, after}

after_name-le : (text : List ℕ) → length (after_name text) ≤ length text
unfolding after_name
after_name-le [] = omega arith
after_name-le (c ∷ cs) =
    by_choice (λ r. length r ≤ length (c ∷ cs)) (goes_on c cs) (after_name cs) (c ∷ cs) (λ _. omega (arith, after_name-le cs)) (λ _. omega arith)

after_digits-le : (text : List ℕ) → length (after_digits text) ≤ length text
unfolding after_digits
after_digits-le [] = omega arith
after_digits-le (c ∷ cs) =
    by_choice (λ r. length r ≤ length (c ∷ cs)) (is_digit c) (after_digits cs) (c ∷ cs) (λ _. omega (arith, after_digits-le cs)) (λ _. omega arith)

after_number-lt : (c : ℕ) (cs : List ℕ) → length (after_number (c ∷ cs)) ≤ length cs
unfolding after_number
after_number-lt c cs = by_choice (λ r. length r ≤ length cs) (c == 48) cs (after_digits cs) (λ _. omega arith) (λ _. after_digits-le cs)

gap_rest-le : (found : Option Gap) (here : List ℕ) (on : Gap → List ℕ) → ((g : Gap) → length (on g) ≤ length here) → length (gap_rest found here on) ≤ length here
gap_rest-le None here on h = omega arith
gap_rest-le (Some g) here on h = h g

pub after_gap-le : (g : Gap) (text : List ℕ) → length (after_gap g text) ≤ length text
unfolding after_gap
after_gap-le g [] = omega arith
after_gap-le g (c ∷ cs) = gap_rest-le (next_gap g c cs) (c ∷ cs) (λ next. after_gap next cs) (λ next. omega (arith, after_gap-le next cs))

letter_goes_on : (u l d x : Bool) → u || l ≡ true → (u || (l || d)) || x ≡ true
letter_goes_on true l d x h = refl
letter_goes_on false true d x h = refl
letter_goes_on false false d x h = cc

name_shorter : (c : ℕ) (cs : List ℕ) → is_upper c || is_lower c ≡ true → length (after_name (c ∷ cs)) ≤ length cs
unfolding after_name
name_shorter c cs h =
    subst (λ (b : Bool). length (cond b (after_name cs) (c ∷ cs)) ≤ length cs) (sym (letter_goes_on (is_upper c) (is_lower c) (is_digit c) _ h)) (after_name-le cs)

-- takes an octet, if it isn't the last
abbrev Takes : ℕ → Lexeme → Type 0
Takes n found = (length found.rest ≤ n) × (is_last found.token ≡ false → length found.rest < n)

long_sign-takes : (c : ℕ) (cs : List ℕ) → Takes (length (c ∷ cs)) (lexeme_or (long_sign (c ∷ cs)) (lexeme (short_sign c) cs))
unfolding long_sign
long_sign-takes c cs =
    by_choice (λ found. Takes (length (c ∷ cs)) (lexeme_or found (lexeme (short_sign c) cs))) (starts_with nat_eq (c ∷ cs) (codes "::=")) _ _
    (λ _. (omega (arith, length-drop 2 cs), λ _. omega (arith, length-drop 2 cs)))
    (λ _. by_choice (λ found. Takes (length (c ∷ cs)) (lexeme_or found (lexeme (short_sign c) cs))) (starts_with nat_eq (c ∷ cs) (codes "...")) _ _
    (λ _. (omega (arith, length-drop 2 cs), λ _. omega (arith, length-drop 2 cs)))
    (λ _. by_choice (λ found. Takes (length (c ∷ cs)) (lexeme_or found (lexeme (short_sign c) cs))) (starts_with nat_eq (c ∷ cs) (codes "..")) _ _
    (λ _. (omega (arith, length-drop 1 cs), λ _. omega (arith, length-drop 1 cs)))
    (λ _. (omega arith, λ _. omega arith))))

negative_takes : (c : ℕ) (cs : List ℕ) → begins is_digit cs ≡ true → Takes (length (c ∷ cs)) (number_lexeme true cs)
unfolding number_lexeme
negative_takes c [] h = cc
negative_takes c (d ∷ ds) h = (omega (arith, after_number-lt d ds), λ _. omega (arith, after_number-lt d ds))

and_right : (a b : Bool) → a && b ≡ true → b ≡ true
and_right true b h = h
and_right false b h = cc

pub lexeme-takes : (text : List ℕ) → Takes (length text) (lexeme_at text)
unfolding lexeme_at number_lexeme
lexeme-takes [] = (omega arith, λ h. cc)
lexeme-takes (c ∷ cs) =
    by_choice (Takes (length (c ∷ cs))) (is_upper c || is_lower c) _ _
    (λ h. (omega (arith, name_shorter c cs h), λ _. omega (arith, name_shorter c cs h)))
    (λ _. by_choice (Takes (length (c ∷ cs))) (is_digit c) _ _
    (λ _. (omega (arith, after_number-lt c cs), λ _. omega (arith, after_number-lt c cs)))
    (λ _. by_choice (Takes (length (c ∷ cs))) ((c == 45) && begins is_digit cs) _ _
    (λ h. negative_takes c cs (and_right _ _ h))
    (λ _. long_sign-takes c cs)))

-- the rest behind an item that isn't last is shorter
pub rest-shorter : (text : List ℕ) → is_last (lexeme_at (after_gap Between text)).token ≡ false → length (lexeme_at (after_gap Between text)).rest < length text
rest-shorter text h = omega (arith, after_gap-le Between text, (lexeme-takes (after_gap Between text)).1 h)

-- any fuel above the length is as good
pub scan-enough : (total n m : ℕ) (text : List ℕ) → length text < n → length text < m → scan total n text ≡ scan total m text
unfolding scan
scan-enough total zero m text h k = absurd (omega arith)
scan-enough total (suc n) zero text h k = absurd (omega arith)
scan-enough total (suc n) (suc m) text h k =
    ap (λ (ps : List Placed). placed total (after_gap Between text) (lexeme_at (after_gap Between text)) ∷ ps)
    (same (is_last (lexeme_at (after_gap Between text)).token) (λ f. scan-enough total n m (lexeme_at (after_gap Between text)).rest (omega (arith, rest-shorter text f)) (omega (arith, rest-shorter text f))))
  where
    same : {x y : List Placed} (b : Bool) → (b ≡ false → x ≡ y) → cond b [] x ≡ cond b [] y
    same true e = refl
    same false e = e refl

-- a scan is its first item and those after it
pub scan-step : (total : ℕ) (text : List ℕ) → scan total (suc (length text)) text ≡ placed total (after_gap Between text) (lexeme_at (after_gap Between text)) ∷ after total (lexeme_at (after_gap Between text)).token (lexeme_at (after_gap Between text)).rest
unfolding scan
scan-step total text =
    ap (λ (ps : List Placed). placed total (after_gap Between text) (lexeme_at (after_gap Between text)) ∷ ps)
    (same (is_last (lexeme_at (after_gap Between text)).token) (λ f. scan-enough total (length text) (suc (length (lexeme_at (after_gap Between text)).rest)) (lexeme_at (after_gap Between text)).rest (rest-shorter text f) (omega arith)))
  where
    same : {x y : List Placed} (b : Bool) → (b ≡ false → x ≡ y) → cond b [] x ≡ cond b [] y
    same true e = refl
    same false e = e refl

-- what is left once the first item was taken
pub advanced : (total : ℕ) (token : Token) (text : List ℕ) → is_last token ≡ false → after total token text ≡ scan total (suc (length text)) text
advanced total token text h = ap (λ (b : Bool). cond b [] (scan total (suc (length text)) text)) h

-- what a scan begins with, once its first item was found
pub made : (total : ℕ) (text here : List ℕ) (token : Token) (rest : List ℕ) → here ≡ after_gap Between text → lexeme_at here ≡ lexeme token rest → placed total here (lexeme token rest) ∷ after total token rest ≡ scan total (suc (length text)) text
made total text here token rest gap found =
    ap (λ (f : Lexeme). placed total here f ∷ after total f.token f.rest) (sym found)
    ∙ ap (λ (h : List ℕ). placed total h (lexeme_at h) ∷ after total (lexeme_at h).token (lexeme_at h).rest) gap
    ∙ sym (scan-step total text)

-- the same, where the item was stored
pub stored : (total : ℕ) (text here : List ℕ) (token kept : Token) (rest : List ℕ) → here ≡ after_gap Between text → lexeme_at here ≡ lexeme token rest → kept ≡ token → placed total here (lexeme kept rest) ∷ after total kept rest ≡ scan total (suc (length text)) text
stored total text here token kept rest gap found same = made total text here kept rest gap (found ∙ ap (λ (t : Token). lexeme t rest) (sym same))
