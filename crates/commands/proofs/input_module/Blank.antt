-- The first item of a text is its end exactly where the text is a gap.
use Rattle.std.proofs.Common.{◌≡◌, ℕ, List, [], ◌∷◌, Bool, true, false, cond, refl, sym, ap, ◌∙◌, subst, Option, Some, None}
use Rattle.gnb_types.proofs.Choices.{by_choice}
use Rattle.asn1_tokens.specs.declared.token.Token.{Token}
use Rattle.asn1_tokens.specs.declared.token.Token.TheVariants as tokens
use Rattle.asn1_tokens.specs.declared.token.Word.{Word}
use Rattle.asn1_tokens.specs.declared.scan.Gap.TheVariants.{Between}
use Rattle.asn1_tokens.specs.Words.{word_of, is_left_out}
use Rattle.asn1_tokens.specs.Scan.{is_upper, begins, after_gap, name_token, word_or, lexeme_at}
use Rattle.asn1_tokens.specs.Stream.{items_of, scan, first_token}
use Rattle.asn1_defs.specs.Items.{IsGap, IsItem}
use Rattle.asn1_defs.specs.Items as item
use Rattle.proof_asn1.proofs.lexical.Gaps.{told, gap_passed}
use Rattle.proof_asn1.proofs.lexical.Items.{item_here}
use Rattle.commands.specs.input_module.Text.{is_end_of_text, is_blank, IsBlank}

first_of : (text : List ℕ) → first_token (items_of text) ≡ (lexeme_at (after_gap Between text)).token
unfolding scan
first_of text = refl

not_end : (b : Bool) (name : List ℕ) (found : Option Word)
    → is_end_of_text (word_or found (cond b (tokens.Upper name) (tokens.Lower name))) ≡ false
not_end b name (Some word) = refl
not_end true name None = refl
not_end false name None = refl

-- a name isn't the text's end
name_goes_on : (name : List ℕ) → is_end_of_text (name_token name) ≡ false
unfolding name_token
name_goes_on name =
    by_choice (λ (t : Token). is_end_of_text t ≡ false) (is_left_out name) _ _ (λ _. refl) (λ _. not_end (begins is_upper name) name (word_of name))

-- and neither is another item
item_goes_on : {c : ℕ} {cs rest : List ℕ} {token : Token} → IsItem (c ∷ cs) token rest → is_end_of_text token ≡ false
item_goes_on (item.name found) = name_goes_on found.front
item_goes_on (item.number found) = refl
item_goes_on (item.negative found) = refl
item_goes_on item.assignment = refl
item_goes_on item.ellipsis = refl
item_goes_on (item.range h) = refl
item_goes_on item.left_brace = refl
item_goes_on item.right_brace = refl
item_goes_on item.left_parenthesis = refl
item_goes_on item.right_parenthesis = refl
item_goes_on item.comma = refl
item_goes_on item.bar = refl
item_goes_on item.left_out = refl
item_goes_on (item.nothing h) = refl

at_end : (here : List ℕ) → is_end_of_text (lexeme_at here).token ≡ true → here ≡ []
at_end [] h = refl
at_end (c ∷ cs) h = absurd (clash (item_goes_on (item_here (c ∷ cs))))
  where
    clash : is_end_of_text (lexeme_at (c ∷ cs)).token ≡ false → ⊥
    clash f = cc

-- a text whose first item is its end is blank
pub blank_of : (text : List ℕ) → is_blank text ≡ true → IsBlank text
blank_of text h = subst (IsGap text) (at_end (after_gap Between text) (ap is_end_of_text (sym (first_of text)) ∙ h)) (told Between text)

blank_first : is_end_of_text (lexeme_at []).token ≡ true
unfolding lexeme_at
blank_first = refl

pub is_blank_of : (text : List ℕ) → IsBlank text → is_blank text ≡ true
is_blank_of text gap =
    ap is_end_of_text (first_of text) ∙ ap (λ (here : List ℕ). is_end_of_text (lexeme_at here).token) (gap_passed gap) ∙ blank_first

-- and of no other one
pub not_blank : (text : List ℕ) → is_blank text ≡ false → IsBlank text → ⊥
not_blank text h gap = never (is_blank text) (is_blank_of text gap) h
  where
    never : (b : Bool) → b ≡ true → b ≡ false → ⊥
    never b e f = cc
