-- Internal: how numbers within bounds, sizes and the type INTEGER are read.
use Rattle.std.specs.Prelude.{ℕ, ◌-◌, ◌^◌, Bool, true, false, Option, Some, None, Result, Ok, Err, if◌then◌else◌, ◌&&◌, ◌||◌, ℤ, pos}
use Rattle.std.specs.Int.Signed.{le_z}
use Rattle.asn1_tokens.specs.declared.token.Word.TheVariants as words
use Rattle.asn1_tokens.specs.declared.token.Sign.TheVariants as signs
use Rattle.asn1_syntax.specs.declared.types.fault.ModuleReason.TheVariants as reasons
use Rattle.asn1_syntax.specs.declared.types.fault.Fault.{Fault}
use Rattle.asn1_syntax.specs.declared.types.definition.Size.{Size}
use Rattle.asn1_syntax.specs.declared.types.definition.Definition.{Definition}
use Rattle.asn1_syntax.specs.declared.types.definition.Definition.TheVariants as types
use Rattle.asn1_syntax.specs.types.Reading.{Left, begins_with_sign}
use Rattle.asn1_syntax.specs.types.inside.Reading.{◌>>=◌, fault_at, word_at, sign_at, number_at}
use Rattle.asn1_syntax.specs.types.Sizes.{natural, least_high, integer_least, integer_greatest, greatest_beside}

-- a number from low to high
unfoldable pub bounded_at : ℤ → ℤ → Left → Result (ℤ × Left) Fault
bounded_at low high ts = do
  value ← number_at ts
  if le_z low value.0 && le_z value.0 high then Ok (value.0, value.1) else Err (fault_at reasons.Bounds ts)

unfoldable pub natural_at : ℕ → ℕ → Left → Result (ℕ × Left) Fault
natural_at low high ts = do
  value ← bounded_at (pos low) (pos high) ts
  Ok (natural value.0, value.1)

-- whether `, ...` stands there
unfoldable pub ellipsis_at : Left → Result (Bool × Left) Fault
ellipsis_at ts = if begins_with_sign signs.Comma ts then (do
  a ← sign_at signs.Comma ts
  b ← sign_at signs.Ellipsis a
  Ok (true, b)) else Ok (false, ts)

-- the end of a size, behind its numbers
unfoldable pub size_end_at : ℕ → ℕ → Left → Result (Size × Left) Fault
size_end_at low high ts = do
  extensible ← ellipsis_at ts
  a ← sign_at signs.RightParenthesis extensible.1
  b ← sign_at signs.RightParenthesis a
  Ok (record { low = low; high = high; extensible = extensible.0 }, b)

-- A size behind its first number. That of a PrintableString varies.
unfoldable pub size_rest_at : Bool → ℕ → Left → Result (Size × Left) Fault
size_rest_at is_text low ts =
    if begins_with_sign signs.Range ts then (do
      a ← sign_at signs.Range ts
      high ← natural_at (least_high is_text low) 65535 a
      size_end_at low high.0 high.1) else (
    if is_text && (begins_with_sign signs.Comma ts || begins_with_sign signs.RightParenthesis ts) then Err (fault_at reasons.Bounds ts)
    else size_end_at low low ts)

-- `(SIZE (..))`
unfoldable pub size_at : Bool → Left → Result (Size × Left) Fault
size_at is_text ts = do
  a ← sign_at signs.LeftParenthesis ts
  b ← word_at words.Size a
  c ← sign_at signs.LeftParenthesis b
  low ← natural_at 1 65535 c
  size_rest_at is_text low.0 low.1

unfoldable pub optional_size_at : Bool → Left → Result (Option Size × Left) Fault
optional_size_at is_text ts = if begins_with_sign signs.LeftParenthesis ts then (do
  size ← size_at is_text ts
  Ok (Some size.0, size.1)) else Ok (None, ts)

-- whether `, ...` stands behind the bounds of an INTEGER; with it they are those of a signed number of 64 bits
unfoldable pub integer_ellipsis_at : ℤ → Left → Result (Bool × Left) Fault
integer_ellipsis_at high ts = if begins_with_sign signs.Comma ts then (do
  a ← sign_at signs.Comma ts
  b ← sign_at signs.Ellipsis a
  if le_z high (pos (2 ^ 63 - 1)) then Ok (true, b) else Err (fault_at reasons.Bounds a)) else Ok (false, ts)

-- behind the word
unfoldable pub integer_at : Left → Result (Definition × Left) Fault
integer_at ts = do
  a ← sign_at signs.LeftParenthesis ts
  low ← bounded_at integer_least integer_greatest a
  b ← sign_at signs.Range low.1
  high ← bounded_at low.0 (greatest_beside low.0) b
  extensible ← integer_ellipsis_at high.0 high.1
  c ← sign_at signs.RightParenthesis extensible.1
  Ok (types.Integer low.0 high.0 extensible.0, c)
