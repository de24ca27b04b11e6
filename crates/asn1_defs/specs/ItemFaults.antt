-- Which items pass a bound of the profile, or give something that was given before: told of an item, those before it, the nearest
-- first, and those behind it.
use Rattle.std.specs.Prelude.{◌≡◌, List, [], ◌∷◌, ◌++◌, Bool, true, false, ◌&&◌, nat_le}
use Rattle.asn1_tokens.specs.declared.token.Sign.{Sign}
use Rattle.asn1_tokens.specs.declared.token.Sign.TheVariants as signs
use Rattle.asn1_tokens.specs.declared.token.Token.{Token}
use Rattle.asn1_tokens.specs.declared.token.Token.TheVariants as tokens
use Rattle.asn1_syntax.specs.types.Sizes.{natural}
use Rattle.asn1_syntax.specs.types.Members.{all_parts, is_full, has_name}
use Rattle.asn1_defs.specs.Bounds.{range_behind, is_outside, is_wide, is_one_size}
use Rattle.asn1_defs.specs.Repetitions.{begins_entry, listed, is_given, begins_assignment, assigned, types_assigned}

-- the next item is `::=`
abbrev pub defines_type : List Token → Bool
defines_type (tokens.Sign signs.Assignment ∷ behind) = true
defines_type _ = false

abbrev pub sign_passes : Sign → List Token → Bool
sign_passes signs.Ellipsis before = is_wide before
sign_passes signs.Comma before = is_one_size before
sign_passes signs.RightParenthesis before = is_one_size before
sign_passes _ before = false

-- A bound is passed: by a number; by the `...` of an INTEGER with too great a bound; by what follows the only number of a
-- PrintableString's size; by a name of one part more than a type may have; by the name of the 1001st type.
unfoldable pub passes_bound : List Token → Token → List Token → Bool
passes_bound before (tokens.Number number) behind = is_outside number (range_behind before)
passes_bound before (tokens.Sign sign) behind = sign_passes sign before
passes_bound before (tokens.Lower name) behind = begins_entry before && is_full (listed 0 before)
passes_bound before (tokens.Upper name) behind = begins_assignment before && (defines_type behind && nat_le 1000 (types_assigned before))
passes_bound before (tokens.Word word) behind = false
passes_bound before tokens.OutOfProfile behind = false
passes_bound before tokens.Nothing behind = false
passes_bound before tokens.EndOfText behind = false

-- A name, id or code that was given before.
unfoldable pub is_repeated : List Token → Token → Bool
is_repeated before (tokens.Number number) = is_given (natural number) before
is_repeated before (tokens.Lower name) = begins_entry before && has_name name (all_parts (listed 0 before))
is_repeated before (tokens.Upper name) = begins_assignment before && has_name name (assigned before)
is_repeated before (tokens.Sign sign) = false
is_repeated before (tokens.Word word) = false
is_repeated before tokens.OutOfProfile = false
is_repeated before tokens.Nothing = false
is_repeated before tokens.EndOfText = false

pub record IsAllowed (before : List Token) (token : Token) (behind : List Token) : Type 0 where
  pub within : passes_bound before token behind ≡ false
  pub new : is_repeated before token ≡ false

-- each of these is allowed, with others before and behind them
abbrev pub AreAllowed : List Token → List Token → List Token → Type 0
AreAllowed before [] behind = Unit {0}
AreAllowed before (token ∷ tokens) behind = IsAllowed before token (tokens ++ behind) × AreAllowed (token ∷ before) tokens behind
