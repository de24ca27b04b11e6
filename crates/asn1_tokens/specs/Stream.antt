-- The lexical items of a text one after another, up to the first that no module goes on with.
use Rattle.std.specs.Prelude.{ℕ, zero, suc, ◌-◌, List, [], ◌∷◌, length, Bool, true, false, if◌then◌else◌}
use Rattle.asn1_tokens.specs.Scan.{after_gap, lexeme_at, Lexeme}
use Rattle.asn1_tokens.specs.declared.token.Token.{Token}
use Rattle.asn1_tokens.specs.declared.token.Token.TheVariants as tokens
use Rattle.asn1_tokens.specs.declared.token.Place.{Place}
use Rattle.asn1_tokens.specs.declared.scan.Gap.TheVariants.{Between}

-- a lexical item, and where it stands
pub record Placed : Type 0 where
  pub token : Token
  pub place : Place

-- no module goes on with it: the text's end, a place where no item begins, or what the profile leaves out
abbrev pub is_last : Token → Bool
is_last tokens.OutOfProfile = true
is_last tokens.Nothing = true
is_last tokens.EndOfText = true
is_last (tokens.Upper name) = false
is_last (tokens.Lower name) = false
is_last (tokens.Word word) = false
is_last (tokens.Number value) = false
is_last (tokens.Sign sign) = false

-- An item of a text of total octets, which begins where here is left, and ends where its rest is left.
abbrev pub placed : ℕ → List ℕ → Lexeme → Placed
placed total here found = record { token = found.token; place = record { start = total - length here; end = total - length found.rest } }

-- the items of what is left of a text of total octets; fuel bounds their number
unfoldable pub scan : ℕ → ℕ → List ℕ → List Placed
scan total zero text = []
scan total (suc fuel) text =
    let here = after_gap Between text in
    let found = lexeme_at here in
    placed total here found ∷ (if is_last found.token then [] else scan total fuel found.rest)

-- those that follow an item
abbrev pub after : ℕ → Token → List ℕ → List Placed
after total token rest = if is_last token then [] else scan total (suc (length rest)) rest

-- the items of a text
abbrev pub items_of : List ℕ → List Placed
items_of text = scan (length text) (suc (length text)) text

-- what stands first, and what follows it
abbrev pub first_token : List Placed → Token
first_token [] = tokens.EndOfText
first_token (p ∷ ps) = p.token

abbrev pub first_place : List Placed → Place
first_place [] = record { start = 0; end = 0 }
first_place (p ∷ ps) = p.place

abbrev pub others : List Placed → List Placed
others [] = []
others (p ∷ ps) = ps
