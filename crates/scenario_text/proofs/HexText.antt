-- Bytes shown one by one.
use Rattle.std.proofs.Common.{◌≡◌, ℕ, ◌+◌, ◌-◌, ◌^◌, ◌<◌, ◌++◌, [], List, false, true, length, get_or, take, ap, sym, ◌∙◌}
use Rattle.std.proofs.lemmas.List.{take_more, flat_map_more}
use Rattle.std.proofs.lemmas.Fmt.{hex_byte}
use Rattle.std.specs.Fmt.{digits, padded_integral, format_spec}
use Rattle.gnb_types.specs.Hex.{hex_of, hex_byte as digits_of_byte}

-- the digits of one more byte, as `{:02X}` writes them
pub hex_of-more : (bytes : List ℕ) (i : ℕ) → i < length bytes → get_or bytes i 0 < 256
    → hex_of (take i bytes) ++ padded_integral (format_spec 32 0 4 2 (2 ^ 64 - 1)) false [] (digits 16 true (get_or bytes i 0)) ≡ hex_of (take (i + 1) bytes)
hex_of-more bytes i inside small =
    ap (λ t. hex_of (take i bytes) ++ t) (hex_byte true _ small) ∙ flat_map_more digits_of_byte [] (take i bytes) (get_or bytes i 0) ∙ ap hex_of (sym (take_more bytes i 0 inside))
