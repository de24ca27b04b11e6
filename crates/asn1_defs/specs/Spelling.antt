-- What the grammar spells, and behind which items a module goes on.
use Rattle.std.specs.Prelude.{◌≡◌, List, [], ◌∷◌, ◌++◌, ◌⊎◌, true, map}
use Rattle.asn1_tokens.specs.declared.token.Token.{Token}
use Rattle.asn1_tokens.specs.Stream.{Placed}
use Rattle.asn1_defs.specs.Grammar.{Terminal, Part, Symbol, Item, Whole, Module, fits, productions}

-- items without their places
abbrev pub tokens_of : List Placed → List Token
tokens_of items = map (λ item. item.token) items

abbrev pub IsOneOf : List Symbol → List (List Symbol) → Type 0
IsOneOf body [] = ⊥
IsOneOf body (other ∷ others) = (other ≡ body) ⊎ IsOneOf body others

-- These symbols spell these items: an item that fits for each terminal, and for a part what one of its productions spells.
pub data Spells : List Symbol → List Token → Type 0 where
  nothing : Spells [] []
  item : {terminal : Terminal} {token : Token} {symbols : List Symbol} {items : List Token} → fits terminal token ≡ true → Spells symbols items → Spells (Item terminal ∷ symbols) (token ∷ items)
  part : {part : Part} (body : List Symbol) {symbols : List Symbol} {items : List Token} → IsOneOf body (productions part) → Spells (body ++ symbols) items → Spells (Whole part ∷ symbols) items

-- the items are those of a module
abbrev pub IsModuleText : List Token → Type 0
IsModuleText items = Spells (Whole Module ∷ []) items

-- some items behind these make a module's text
abbrev pub IsOpen : List Token → Type 0
IsOpen front = (more : List Token) × IsModuleText (front ++ more)

-- some item may stand behind these
abbrev pub GoesOn : List Token → Type 0
GoesOn front = (token : Token) × IsOpen (front ++ token ∷ [])
