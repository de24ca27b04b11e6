-- Which items of a text are allowed, and why there is a fault at one: a step to `IsTextOf` and `IsFirstWrong`.
use Rattle.std.specs.Prelude.{◌≡◌, ℕ, List, [], ◌∷◌, ◌++◌, reverse, true, false}
use Rattle.asn1_tokens.specs.declared.token.Word.TheVariants as words
use Rattle.asn1_tokens.specs.declared.token.Token.{Token}
use Rattle.asn1_tokens.specs.declared.token.Token.TheVariants as tokens
use Rattle.asn1_tokens.specs.Stream.{Placed, items_of}
use Rattle.asn1_syntax.specs.declared.types.fault.ModuleReason.{ModuleReason}
use Rattle.asn1_syntax.specs.declared.types.fault.ModuleReason.TheVariants.{Bounds, Twice}
use Rattle.asn1_syntax.specs.declared.types.fault.Fault.{Fault}
use Rattle.asn1_syntax.specs.types.Reading.{reason_of}
use Rattle.asn1_defs.specs.Spelling.{tokens_of}
use Rattle.asn1_defs.specs.ItemFaults.{AreAllowed, is_repeated, passes_bound}

-- Why there is a fault at an item. Bounds goes before Twice.
pub data Because (before : List Token) (token : Token) (behind : List Token) : ModuleReason → Type 0 where
  misplaced : Because before token behind (reason_of token)
  bounds : passes_bound before token behind ≡ true → Because before token behind Bounds
  twice : passes_bound before token behind ≡ false → is_repeated before token ≡ true → Because before token behind Twice

-- the items of a text up to its word END, which ends with this octet, are allowed
pub record AreAllowedTo (text : List ℕ) (octets : ℕ) : Type 0 where
  pub front : List Placed
  pub last : Placed
  pub rest : List Placed
  pub items : items_of text ≡ front ++ last ∷ rest
  pub word : last.token ≡ tokens.Word words.End
  pub allowed : AreAllowed [] (tokens_of front ++ last.token ∷ []) (tokens_of rest)
  pub ends : octets ≡ last.place.end

-- the items before a fault are allowed, and this is why there is one
pub record IsJudged (text : List ℕ) (fault : Fault) : Type 0 where
  pub front : List Placed
  pub item : Placed
  pub rest : List Placed
  pub items : items_of text ≡ front ++ item ∷ rest
  pub at : fault.place ≡ item.place.start
  pub allowed : AreAllowed [] (tokens_of front) (item.token ∷ tokens_of rest)
  pub because : Because (reverse (tokens_of front)) item.token (tokens_of rest) fault.reason
