-- How deep types stand one inside another, told of a module's items alone, from left to right; nothing here knows of types, of their
-- numbers, or of a graph.
use Rattle.std.specs.Prelude.{ℕ, suc, ◌+◌, ◌<◌, List, [], ◌∷◌, Option, Some, None, ◌≡◌, slice_get, position}
use Rattle.asn1_tokens.specs.declared.token.Word.TheVariants as words
use Rattle.asn1_tokens.specs.declared.token.Sign.TheVariants as signs
use Rattle.asn1_tokens.specs.declared.token.Token.{Token}
use Rattle.asn1_tokens.specs.declared.token.Token.TheVariants as tokens
use Rattle.asn1_tokens.specs.Words.{is_text}
use Rattle.asn1_tokens.specs.Stream.{Placed}
use Rattle.asn1_defs.specs.declared.names.Kind.{Kind}
use Rattle.law_asn1.specs.names.Held.{given_kind}

-- Levels, those in the innermost bracket first: a type that counts raises it, a bracket opens with the level that it stands at and closes
-- with it, and where a type begins beside another one the level is that of the bracket around both.
abbrev pub raised : List ℕ → List ℕ
raised [] = []
raised (x ∷ xs) = suc x ∷ xs

abbrev pub opened : List ℕ → List ℕ
opened [] = []
opened (x ∷ xs) = x ∷ x ∷ xs

abbrev pub closed : List ℕ → List ℕ
closed [] = []
closed (x ∷ xs) = xs

abbrev pub begun : List ℕ → List ℕ
begun (x ∷ y ∷ xs) = y ∷ y ∷ xs
begun stack = stack

-- the levels behind an item
abbrev pub behind : Token → List ℕ → List ℕ
behind (tokens.Word words.Sequence) stack = raised stack
behind (tokens.Word words.Choice) stack = raised stack
behind (tokens.Word words.ProtocolIeContainer) stack = raised stack
behind (tokens.Word words.ProtocolPdu) stack = raised stack
behind (tokens.Word words.Type) stack = begun stack
behind (tokens.Word words.Message) stack = begun stack
behind (tokens.Word words.Outcome) stack = begun stack
behind (tokens.Sign signs.Comma) stack = begun stack
behind (tokens.Sign signs.LeftBrace) stack = opened stack
behind (tokens.Sign signs.LeftParenthesis) stack = opened stack
behind (tokens.Sign signs.RightBrace) stack = closed stack
behind (tokens.Sign signs.RightParenthesis) stack = closed stack
behind _ stack = stack

abbrev pub innermost : List ℕ → ℕ
innermost [] = 0
innermost (x ∷ xs) = x

-- an item of an assignment: how deep it stands, and the name by which it refers, if it does
pub record Item : Type 0 where
  pub level : ℕ
  pub name : Option (List ℕ)

-- an assignment: its name, and the items behind it
pub record Assigned : Type 0 where
  pub name : List ℕ
  pub items : List Item

-- an item at this level, before those that follow it up to the next assignment or the word END
abbrev pub item_from : Token → Option Kind → ℕ → List Item → List Item
item_from (tokens.Upper name) None level later = record { level = level; name = Some name } ∷ later
item_from (tokens.Upper name) (Some given) level later = []
item_from (tokens.Word words.End) following level later = []
item_from _ following level later = record { level = level; name = None } ∷ later

-- the items up to the next assignment or the word END, where these are the levels before them
unfoldable pub items_in : List ℕ → List Placed → List Item
items_in stack [] = []
items_in stack (p ∷ ts) = item_from p.token (given_kind ts) (innermost (behind p.token stack)) (items_in (behind p.token stack) ts)

-- an item, before the assignments that follow it
abbrev pub assigned_from : Token → Option Kind → List Item → List Assigned → List Assigned
assigned_from (tokens.Upper name) (Some given) items later = record { name = name; items = items } ∷ later
assigned_from (tokens.Upper name) None items later = later
assigned_from (tokens.Word words.End) following items later = []
assigned_from _ following items later = later

-- the assignments of a module's items, up to the word END
unfoldable pub assigned : List Placed → List Assigned
assigned [] = []
assigned (p ∷ ts) = assigned_from p.token (given_kind ts) (items_in (0 ∷ []) ts) (assigned ts)

-- an assignment, by its number, has this item
pub record HasItem (gs : List Assigned) (k : ℕ) (item : Item) : Type 0 where
  pub given : Assigned
  pub there : slice_get gs k ≡ Some given
  pub number : ℕ
  pub at : slice_get given.items number ≡ Some item

-- So many types stand one inside another in the items of an assignment, and in the assignments that these name: the first of the name.
pub data Stands (gs : List Assigned) : ℕ → ℕ → Type 0 where
  here : {k : ℕ} {item : Item} → HasItem gs k item → Stands gs k item.level
  by_name : {k j d : ℕ} {item : Item} {name : List ℕ} → HasItem gs k item → item.name ≡ Some name → position (λ (g : Assigned). is_text g.name name) gs ≡ Some j
      → Stands gs j d → Stands gs k (item.level + d)

-- more than sixty do
abbrev pub IsDeepIn : List Placed → ℕ → Type 0
IsDeepIn items k = (d : ℕ) × Stands (assigned items) k d × (60 < d)
