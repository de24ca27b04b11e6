-- The item at the front of a text is the one that is read there, and no other.
use Rattle.std.proofs.Common.{◌≡◌, ℕ, List, [], ◌∷◌, ◌++◌, length, drop, true, false, ◌||◌, ◌&&◌, refl, sym, subst, neg_ℤ}
use Rattle.std.specs.Prelude.{◌==◌, nat_eq, codes, pos, Option}
use Rattle.std.specs.List.{starts_with}
use Rattle.std.proofs.lemmas.Bool.{eqb-true}
use Rattle.std.proofs.lemmas.Bool.Decides.{Decides-eqb}
use Rattle.std.proofs.lemmas.Slice.Eq.{starts_is}
use Rattle.gnb_types.proofs.Choices.{by_test, by_choice, both}
use Rattle.asn1_tokens.specs.declared.token.Sign.TheVariants as signs
use Rattle.asn1_tokens.specs.declared.token.Token.{Token}
use Rattle.asn1_tokens.specs.declared.token.Token.TheVariants as tokens
use Rattle.asn1_tokens.specs.Scan.{is_upper, is_lower, is_digit, begins, after_name, after_number, before, magnitude, Lexeme, lexeme, name_token, lexeme_or, long_sign, short_sign, number_lexeme, lexeme_at}
use Rattle.asn1_defs.specs.Items.{IsName, IsNumber, IsLongest, is_short, begins_item, IsItem}
use Rattle.asn1_defs.specs.Items as item
use Rattle.proof_asn1.proofs.lexical.LexicalLemmas.{name_longest, number_longest}
use Rattle.proof_asn1.proofs.lexical.Longest.{front_before}

-- what is found is the item at the front
abbrev Fits : List ℕ → Lexeme → Type 0
Fits text found = IsItem text found.token found.rest

name_item : (c : ℕ) (cs : List ℕ) → is_upper c || is_lower c ≡ true → Fits (c ∷ cs) (lexeme (name_token (before (c ∷ cs) (after_name (c ∷ cs)))) (after_name (c ∷ cs)))
name_item c cs h = subst (λ (front : List ℕ). IsItem (c ∷ cs) (name_token front) (after_name (c ∷ cs))) (sym (front_before (name_longest c cs h))) (item.name (name_longest c cs h))

number_item : (c : ℕ) (cs : List ℕ) → is_digit c ≡ true → Fits (c ∷ cs) (number_lexeme false (c ∷ cs))
unfolding number_lexeme
number_item c cs h = subst (λ (front : List ℕ). IsItem (c ∷ cs) (tokens.Number (pos (magnitude front))) (after_number (c ∷ cs))) (sym (front_before (number_longest c cs h))) (item.number (number_longest c cs h))

minus_item : (c : ℕ) (cs : List ℕ) → is_digit c ≡ true → Fits (45 ∷ c ∷ cs) (number_lexeme true (c ∷ cs))
unfolding number_lexeme
minus_item c cs h = subst (λ (front : List ℕ). IsItem (45 ∷ c ∷ cs) (tokens.Number (neg_ℤ (pos (magnitude front)))) (after_number (c ∷ cs))) (sym (front_before (number_longest c cs h))) (item.negative (number_longest c cs h))

negative_item : (c : ℕ) (cs : List ℕ) → (c == 45) ≡ true → begins is_digit cs ≡ true → Fits (c ∷ cs) (number_lexeme true cs)
negative_item c [] hyphen h = cc
negative_item c (d ∷ ds) hyphen h = subst (λ (n : ℕ). Fits (n ∷ d ∷ ds) (number_lexeme true (d ∷ ds))) (sym (eqb-true c 45 hyphen)) (minus_item d ds h)

-- a text that starts with a sign's octets is these and what follows them
pub sign_front : (text sign : List ℕ) → starts_with nat_eq text sign ≡ true → text ≡ sign ++ drop (length sign) text
sign_front text sign h = (starts_is Decides-eqb text sign (starts_with nat_eq text sign) refl).0 h

assignment_item : (text : List ℕ) → starts_with nat_eq text (codes "::=") ≡ true → IsItem text (tokens.Sign signs.Assignment) (drop 3 text)
assignment_item text h = subst (λ (xs : List ℕ). IsItem xs (tokens.Sign signs.Assignment) (drop 3 text)) (sym (sign_front text (codes "::=") h)) item.assignment

ellipsis_item : (text : List ℕ) → starts_with nat_eq text (codes "...") ≡ true → IsItem text (tokens.Sign signs.Ellipsis) (drop 3 text)
ellipsis_item text h = subst (λ (xs : List ℕ). IsItem xs (tokens.Sign signs.Ellipsis) (drop 3 text)) (sym (sign_front text (codes "...") h)) item.ellipsis

-- two dots without a third
two_dots : (rest : List ℕ) → starts_with nat_eq (46 ∷ 46 ∷ rest) (codes "...") ≡ false → begins (λ c. c == 46) rest ≡ false
two_dots [] h = refl
two_dots (c ∷ cs) h = by_test ((c == 46) ≡ false) (c == 46) (λ e. absurd (third (eqb-true c 46 e) h)) (λ e. e)
  where
    third : c ≡ 46 → starts_with nat_eq (46 ∷ 46 ∷ c ∷ cs) (codes "...") ≡ false → ⊥
    third is = subst (λ (n : ℕ). starts_with nat_eq (46 ∷ 46 ∷ n ∷ cs) (codes "...") ≡ false → ⊥) (sym is) (λ e. cc)

range_item : (text : List ℕ) → starts_with nat_eq text (codes "...") ≡ false → starts_with nat_eq text (codes "..") ≡ true → IsItem text (tokens.Sign signs.Range) (drop 2 text)
range_item text no_third h = subst (λ (xs : List ℕ). IsItem xs (tokens.Sign signs.Range) (drop 2 text)) (sym front) (item.range (two_dots (drop 2 text) (subst (λ (xs : List ℕ). starts_with nat_eq xs (codes "...") ≡ false) front no_third)))
  where
    front : text ≡ 46 ∷ 46 ∷ drop 2 text
    front = sign_front text (codes "..") h

-- an octet that is a sign's
octet_item : (c k : ℕ) (cs : List ℕ) {token : Token} → IsItem (k ∷ cs) token cs → (c == k) ≡ true → IsItem (c ∷ cs) token cs
octet_item c k cs {token} it h = subst (λ (n : ℕ). IsItem (n ∷ cs) token cs) (sym (eqb-true c k h)) it

abbrev ShortFits : ℕ → List ℕ → Token → Type 0
ShortFits c cs token = IsItem (c ∷ cs) token cs

short_item : (c : ℕ) (cs : List ℕ) → (is_short c ≡ false → IsItem (c ∷ cs) tokens.Nothing cs) → IsItem (c ∷ cs) (short_sign c) cs
unfolding short_sign
short_item c cs other =
    by_choice (ShortFits c cs) (c == 123) _ _ (octet_item c 123 cs item.left_brace) (λ a.
    by_choice (ShortFits c cs) (c == 125) _ _ (octet_item c 125 cs item.right_brace) (λ b.
    by_choice (ShortFits c cs) (c == 40) _ _ (octet_item c 40 cs item.left_parenthesis) (λ d.
    by_choice (ShortFits c cs) (c == 41) _ _ (octet_item c 41 cs item.right_parenthesis) (λ e.
    by_choice (ShortFits c cs) (c == 44) _ _ (octet_item c 44 cs item.comma) (λ f.
    by_choice (ShortFits c cs) (c == 124) _ _ (octet_item c 124 cs item.bar) (λ g.
    by_choice (ShortFits c cs) (c == 91) _ _ (octet_item c 91 cs item.left_out) (λ h.
    other (λ i. a i || (b i || (d i || (e i || (f i || (g i || h i)))))))))))))

abbrev SignFits : ℕ → List ℕ → Option Lexeme → Type 0
SignFits c cs found = Fits (c ∷ cs) (lexeme_or found (lexeme (short_sign c) cs))

sign_item : (c : ℕ) (cs : List ℕ) → (starts_with nat_eq (c ∷ cs) (codes "::=") ≡ false → starts_with nat_eq (c ∷ cs) (codes "..") ≡ false → is_short c ≡ false → IsItem (c ∷ cs) tokens.Nothing cs) → Fits (c ∷ cs) (lexeme_or (long_sign (c ∷ cs)) (lexeme (short_sign c) cs))
unfolding long_sign
sign_item c cs other =
    by_choice (SignFits c cs) (starts_with nat_eq (c ∷ cs) (codes "::=")) _ _ (assignment_item (c ∷ cs)) (λ a.
    by_choice (SignFits c cs) (starts_with nat_eq (c ∷ cs) (codes "...")) _ _ (ellipsis_item (c ∷ cs)) (λ e.
    by_choice (SignFits c cs) (starts_with nat_eq (c ∷ cs) (codes "..")) _ _ (range_item (c ∷ cs) e) (λ r.
    short_item c cs (other a r))))

-- what is read is the item at the front
pub item_here : (text : List ℕ) → Fits text (lexeme_at text)
unfolding lexeme_at
item_here [] = item.at_end
item_here (c ∷ cs) =
    by_choice (Fits (c ∷ cs)) (is_upper c || is_lower c) _ _ (name_item c cs) (λ l.
    by_choice (Fits (c ∷ cs)) (is_digit c) _ _ (number_item c cs) (λ d.
    by_choice (Fits (c ∷ cs)) ((c == 45) && begins is_digit cs) _ _ (λ h. negative_item c cs (both _ _ h).0 (both _ _ h).1) (λ m.
    sign_item c cs (λ a r s. item.nothing (λ i. l i || (d i || (m i || (a i || (r i || s i)))))))))
