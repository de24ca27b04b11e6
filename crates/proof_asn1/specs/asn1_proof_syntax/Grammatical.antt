-- What the grammar says of a text: where its module ends, and what is wrong with its first wrong item.
use Rattle.std.specs.Prelude.{◌≡◌, ℕ, List, [], ◌∷◌, ◌++◌}
use Rattle.asn1_tokens.specs.declared.token.Token.{Token}
use Rattle.asn1_tokens.specs.Stream.{Placed, items_of}
use Rattle.asn1_syntax.specs.declared.types.fault.ModuleReason.{ModuleReason}
use Rattle.asn1_syntax.specs.declared.types.fault.ModuleReason.TheVariants.{Bounds, Twice}
use Rattle.asn1_syntax.specs.declared.types.fault.Fault.{Fault}
use Rattle.asn1_syntax.specs.types.Reading.{reason_of}
use Rattle.asn1_defs.specs.Spelling.{tokens_of, IsModuleText, IsOpen, GoesOn}

-- the items of the text up to this octet, each as long as it can be in the whole text, are a module's
pub record IsModuleFront (text : List ℕ) (octets : ℕ) : Type 0 where
  pub front : List Placed
  pub last : Placed
  pub rest : List Placed
  pub items : items_of text ≡ front ++ last ∷ rest
  pub spelled : IsModuleText (tokens_of front ++ last.token ∷ [])
  pub ends : octets ≡ last.place.end

-- Behind these items this one is wrong: no module goes on with it, or one does, but a bound is passed or a name, id or code
-- was given before.
pub data IsWrong (front : List Token) (token : Token) : ModuleReason → Type 0 where
  not_open : (IsOpen (front ++ token ∷ []) → ⊥) → IsWrong front token (reason_of token)
  bounds : IsOpen (front ++ token ∷ []) → IsWrong front token Bounds
  twice : IsOpen (front ++ token ∷ []) → IsWrong front token Twice

-- the fault is at an item of the text that is wrong, and a module goes on behind those before it
pub record IsWrongItem (text : List ℕ) (fault : Fault) : Type 0 where
  pub front : List Placed
  pub item : Placed
  pub rest : List Placed
  pub items : items_of text ≡ front ++ item ∷ rest
  pub at : fault.place ≡ item.place.start
  pub before : GoesOn (tokens_of front)
  pub wrong : IsWrong (tokens_of front) item.token fault.reason
