-- An item that is told by a number is exactly that item.
use Rattle.std.proofs.Common.{◌≡◌, ℕ, List, [], ◌∷◌, get_or, true, refl, sym, ap, ◌∙◌}
use Rattle.std.proofs.lemmas.Bool.{eqb-true}
use Rattle.asn1_tokens.specs.declared.token.Word.{Word}
use Rattle.asn1_tokens.specs.declared.token.Word.TheVariants as words
use Rattle.asn1_tokens.specs.declared.token.Sign.{Sign}
use Rattle.asn1_tokens.specs.declared.token.Sign.TheVariants as signs
use Rattle.asn1_tokens.specs.declared.token.Token.{Token}
use Rattle.asn1_tokens.specs.declared.token.Token.TheVariants as tokens
use Rattle.asn1_tokens.specs.Words.{all_words, word_number, sign_number, is_word, is_sign}
use Rattle.asn1_syntax.specs.types.Reading.{is_word_token, is_sign_token}

-- each other row is proved as this one is
numbered_word : (w : Word) → get_or all_words (word_number w) words.End ≡ w
numbered_word words.Definitions = refl
numbered_word _ = refl

abbrev all_signs : List Sign
all_signs = signs.Assignment ∷ signs.Ellipsis ∷ signs.Range ∷ signs.LeftBrace ∷ signs.RightBrace ∷ signs.LeftParenthesis ∷ signs.RightParenthesis ∷ signs.Comma ∷ signs.Bar ∷ []

numbered_sign : (s : Sign) → get_or all_signs (sign_number s) signs.Bar ≡ s
numbered_sign signs.Assignment = refl
numbered_sign _ = refl

pub word_same : (a b : Word) → is_word a b ≡ true → a ≡ b
word_same a b h = sym (numbered_word a) ∙ ap (λ (n : ℕ). get_or all_words n words.End) (eqb-true (word_number a) (word_number b) h) ∙ numbered_word b

pub sign_same : (a b : Sign) → is_sign a b ≡ true → a ≡ b
sign_same a b h = sym (numbered_sign a) ∙ ap (λ (n : ℕ). get_or all_signs n signs.Bar) (eqb-true (sign_number a) (sign_number b) h) ∙ numbered_sign b

pub a_word : (w : Word) (t : Token) → is_word_token w t ≡ true → t ≡ tokens.Word w
a_word w (tokens.Word found) h = ap (λ (x : Word). tokens.Word x) (word_same found w h)
a_word w _ h = cc

pub a_sign : (s : Sign) (t : Token) → is_sign_token s t ≡ true → t ≡ tokens.Sign s
a_sign s (tokens.Sign found) h = ap (λ (x : Sign). tokens.Sign x) (sign_same found s h)
a_sign s _ h = cc
