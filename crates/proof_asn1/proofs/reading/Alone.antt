-- No module's text goes on behind another one's: the word END stands in it once, and last.
use Rattle.std.proofs.lemmas.List.{append-nil}
use Rattle.std.proofs.lemmas.Bool.{eqb-true}
use Rattle.std.proofs.Common.{◌≡◌, ℕ, ◌+◌, ◌<◌, List, [], ◌∷◌, ◌++◌, Bool, true, false, cond, ◌&&◌, refl, sym, ap, ◌∙◌, inl, inr, arith}
use Rattle.std.specs.Prelude.{◌==◌}
use Rattle.asn1_tokens.specs.declared.token.Word.TheVariants as words
use Rattle.asn1_tokens.specs.declared.token.Token.{Token}
use Rattle.asn1_tokens.specs.declared.token.Token.TheVariants as tokens
use Rattle.asn1_tokens.specs.Stream.{is_last}
use Rattle.asn1_tokens.specs.Words.{is_word, word_number}
use Rattle.asn1_defs.specs.Grammar.{Terminal, TheWord, fits, Part, Symbol, Item, Whole, Module, Assignments, productions}
use Rattle.proof_asn1.proofs.grammar.Decide.{and_left, and_right}
use Rattle.proof_asn1.proofs.reading.Splits.{head_same, tail_same}
use Rattle.asn1_defs.specs.Spelling.{IsOneOf, Spells, nothing, item, part, IsModuleText}

abbrev is_end : Token → Bool
is_end token = fits (TheWord words.End) token

abbrev wants_end : Terminal → Bool
wants_end (TheWord word) = is_word word words.End
wants_end _ = false

abbrev one_if : Bool → ℕ
one_if b = cond b 1 0

agree : (k : Terminal) (t : Token) → fits k t ≡ true → is_end t ≡ wants_end k
agree (TheWord w) (tokens.Word found) h = ap (λ (n : ℕ). n == word_number words.End) (eqb-true (word_number found) (word_number w) h)
agree (TheWord w) _ h = cc
agree _ (tokens.Word found) h = cc
agree _ _ h = refl

-- ---- how often the word stands in what symbols spell

abbrev ends : List Token → ℕ
ends [] = 0
ends (t ∷ ts) = one_if (is_end t) + ends ts

abbrev part_ends : Part → ℕ
part_ends Module = 1
part_ends Assignments = 1
part_ends _ = 0

abbrev weight : List Symbol → ℕ
weight [] = 0
weight (Item k ∷ symbols) = one_if (wants_end k) + weight symbols
weight (Whole n ∷ symbols) = part_ends n + weight symbols

abbrev all_weigh : ℕ → List (List Symbol) → Bool
all_weigh n [] = true
all_weigh n (b ∷ bodies) = (weight b == n) && all_weigh n bodies

parts_weigh : (n : Part) → all_weigh (part_ends n) (productions n) ≡ true
unfolding productions
parts_weigh Module = refl
parts_weigh Assignments = refl
parts_weigh _ = refl

one_weighs : (n : ℕ) (b : List Symbol) (bodies : List (List Symbol)) → all_weigh n bodies ≡ true → IsOneOf b bodies → weight b ≡ n
one_weighs n b [] h one = absurd one
one_weighs n b (c ∷ bodies) h (inl same) = ap weight (sym same) ∙ eqb-true (weight c) n (and_left _ _ h)
one_weighs n b (c ∷ bodies) h (inr one) = one_weighs n b bodies (and_right _ _ h) one

weight_append : (b symbols : List Symbol) → weight (b ++ symbols) ≡ weight b + weight symbols
weight_append [] symbols = omega arith
weight_append (Item k ∷ b) symbols = omega (arith, weight_append b symbols)
weight_append (Whole n ∷ b) symbols = omega (arith, weight_append b symbols)

spelled_ends : {symbols : List Symbol} {items : List Token} → Spells symbols items → ends items ≡ weight symbols
spelled_ends nothing = refl
spelled_ends (item {terminal = k} {token = t} {items} h rest) = ap (λ (b : Bool). one_if b + ends items) (agree k t h) ∙ ap (λ (n : ℕ). one_if (wants_end k) + n) (spelled_ends rest)
spelled_ends (part {part = n} b {symbols} one rest) = omega (arith, spelled_ends rest, weight_append b symbols, one_weighs (part_ends n) b (productions n) (parts_weigh n) one)

-- ---- the word stands last

abbrev last_is_end : List Token → Bool
last_is_end [] = false
last_is_end (t ∷ []) = is_end t
last_is_end (t ∷ u ∷ ts) = last_is_end (u ∷ ts)

abbrev closes : Symbol → Bool
closes (Item k) = wants_end k
closes (Whole Module) = true
closes (Whole Assignments) = true
closes _ = false

abbrev closing : List Symbol → Bool
closing [] = false
closing (s ∷ []) = closes s
closing (s ∷ r ∷ symbols) = closing (r ∷ symbols)

abbrev all_closing : List (List Symbol) → Bool
all_closing [] = true
all_closing (b ∷ bodies) = closing b && all_closing bodies

one_closing : (b : List Symbol) (bodies : List (List Symbol)) → all_closing bodies ≡ true → IsOneOf b bodies → closing b ≡ true
one_closing b [] h one = absurd one
one_closing b (c ∷ bodies) h (inl same) = ap closing (sym same) ∙ and_left _ _ h
one_closing b (c ∷ bodies) h (inr one) = one_closing b bodies (and_right _ _ h) one

parts_closing : (n : Part) → closes (Whole n) ≡ true → all_closing (productions n) ≡ true
unfolding productions
parts_closing Module h = refl
parts_closing Assignments h = refl
parts_closing _ h = cc

closing_append : (b : List Symbol) (s : Symbol) (symbols : List Symbol) → closing (b ++ s ∷ symbols) ≡ closing (s ∷ symbols)
closing_append [] s symbols = refl
closing_append (c ∷ []) s symbols = refl
closing_append (c ∷ d ∷ b) s symbols = closing_append (d ∷ b) s symbols

closing_body : (n : Part) (b symbols : List Symbol) → IsOneOf b (productions n) → closing (Whole n ∷ symbols) ≡ true → closing (b ++ symbols) ≡ true
closing_body n b [] one h = ap closing (append-nil b) ∙ one_closing b (productions n) (parts_closing n h) one
closing_body n b (s ∷ symbols) one h = closing_append b s symbols ∙ h

longer : (t : Token) (ts : List Token) → last_is_end ts ≡ true → last_is_end (t ∷ ts) ≡ true
longer t [] e = cc
longer t (u ∷ us) e = e

last_ends : {symbols : List Symbol} {items : List Token} → Spells symbols items → closing symbols ≡ true → last_is_end items ≡ true
last_ends nothing h = cc
last_ends (item {terminal = k} {token = t} {symbols = []} f nothing) h = agree k t f ∙ h
last_ends (item {token = t} {symbols = s ∷ symbols} {items} f rest) h = longer t items (last_ends rest h)
last_ends (part {part = n} b {symbols} one rest) h = last_ends rest (closing_body n b symbols one h)

last_append : (w : List Token) (x : Token) (xs : List Token) → last_is_end (w ++ x ∷ xs) ≡ last_is_end (x ∷ xs)
last_append [] x xs = refl
last_append (t ∷ []) x xs = refl
last_append (t ∷ u ∷ w) x xs = last_append (u ∷ w) x xs

if_true : (b : Bool) → b ≡ true → 0 < one_if b
if_true true e = omega arith
if_true false e = cc

has_end : (x : Token) (xs : List Token) → last_is_end (x ∷ xs) ≡ true → 0 < ends (x ∷ xs)
has_end x [] h = omega (arith, if_true (is_end x) h)
has_end x (y ∷ ys) h = omega (arith, has_end y ys h)

ends_append : (w v : List Token) → ends (w ++ v) ≡ ends w + ends v
ends_append [] v = omega arith
ends_append (t ∷ w) v = omega (arith, ends_append w v)

-- no module's text goes on behind another one's
pub alone : (w : List Token) (x : Token) (xs : List Token) → IsModuleText w → IsModuleText (w ++ x ∷ xs) → ⊥
alone w x xs one two = absurd (omega (arith, spelled_ends one, spelled_ends two, ends_append w (x ∷ xs), has_end x xs (sym (last_append w x xs) ∙ last_ends two refl)))

-- ---- an item that is spelled isn't one with which no module goes on

fits_goes : (k : Terminal) (t : Token) → fits k t ≡ true → is_last t ≡ false
fits_goes k tokens.OutOfProfile h = cc
fits_goes k tokens.Nothing h = cc
fits_goes k tokens.EndOfText h = cc
fits_goes k _ h = refl

each_goes : {symbols : List Symbol} {items : List Token} → Spells symbols items → (front : List Token) (t : Token) (more : List Token) → items ≡ front ++ t ∷ more → is_last t ≡ false
each_goes nothing [] t more e = cc
each_goes nothing (x ∷ front) t more e = cc
each_goes (item {terminal = k} {token = u} h rest) [] t more e = ap is_last (sym (head_same e)) ∙ fits_goes k u h
each_goes (item h rest) (x ∷ front) t more e = each_goes rest front t more (tail_same e)
each_goes (part b one rest) front t more e = each_goes rest front t more e

pub spelled_goes : {symbols : List Symbol} (front : List Token) (t : Token) (more : List Token) → Spells symbols (front ++ t ∷ more) → is_last t ≡ false
spelled_goes front t more spelled = each_goes spelled front t more refl
