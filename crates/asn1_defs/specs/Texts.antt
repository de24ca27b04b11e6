-- Which texts are modules, but for what their names refer to, and what the first wrong item of the others is.
use Rattle.std.specs.Prelude.{◌≡◌, ℕ, List, [], ◌∷◌, ◌++◌, length, reverse, true, false}
use Rattle.asn1_tokens.specs.declared.token.Token.{Token}
use Rattle.asn1_tokens.specs.Stream.{Placed}
use Rattle.asn1_defs.specs.Items.{AreItems}
use Rattle.asn1_syntax.specs.declared.types.fault.ModuleReason.{ModuleReason}
use Rattle.asn1_syntax.specs.declared.types.fault.ModuleReason.TheVariants.{Bounds, Twice}
use Rattle.asn1_syntax.specs.declared.types.fault.Fault.{Fault}
use Rattle.asn1_syntax.specs.types.Reading.{reason_of}
use Rattle.asn1_syntax.specs.declared.assignments.assignment.Syntax.{Syntax}
use Rattle.asn1_defs.specs.Spelling.{tokens_of, IsModuleText, IsOpen, GoesOn}
use Rattle.asn1_defs.specs.ItemFaults.{passes_bound, is_repeated, AreAllowed}
use Rattle.asn1_defs.specs.ModuleMeanings.{MeansModule}

-- The text's items begin with a module's: the grammar spells them, none passes a bound or gives something again, and they mean this
-- module.
pub record IsTextOf (text : List ℕ) (m : Syntax) : Type 0 where
  pub front : List Placed
  pub last : Placed
  pub rest : List Placed
  pub items : AreItems (length text) text (front ++ last ∷ rest)
  pub spelled : IsModuleText (tokens_of front ++ last.token ∷ [])
  pub allowed : AreAllowed [] (tokens_of front ++ last.token ∷ []) (tokens_of rest)
  pub means : MeansModule (front ++ last ∷ rest) m
  pub ends : m.end ≡ last.place.end

-- What is wrong with an item behind these: no module goes on with it, though one goes on with another item; or one does, but it
-- passes a bound, or gives something again.
pub data IsWrong (front : List Token) (token : Token) (behind : List Token) : ModuleReason → Type 0 where
  not_open : GoesOn front → (IsOpen (front ++ token ∷ []) → ⊥) → IsWrong front token behind (reason_of token)
  bounds : IsOpen (front ++ token ∷ []) → passes_bound (reverse front) token behind ≡ true → IsWrong front token behind Bounds
  twice : IsOpen (front ++ token ∷ []) → passes_bound (reverse front) token behind ≡ false → is_repeated (reverse front) token ≡ true → IsWrong front token behind Twice

-- the first wrong item of a text, where a fault is told
pub record IsFirstWrong (text : List ℕ) (fault : Fault) : Type 0 where
  pub front : List Placed
  pub item : Placed
  pub rest : List Placed
  pub items : AreItems (length text) text (front ++ item ∷ rest)
  pub at : fault.place ≡ item.place.start
  pub allowed : AreAllowed [] (tokens_of front) (item.token ∷ tokens_of rest)
  pub wrong : IsWrong (tokens_of front) item.token (tokens_of rest) fault.reason
