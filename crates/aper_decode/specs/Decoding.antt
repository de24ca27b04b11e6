-- What a decoder answers.
use Rattle.std.specs.Prelude.{◌≡◌, ℕ, List, Result, Ok, Err}
use Rattle.aper_defs.specs.Trees.{Tree}
use Rattle.aper_defs.specs.Reading.{decoded}
use Rattle.aper_values.specs.declared.value.Value.{Value}
use Rattle.aper_values.specs.Views.{view}
use Rattle.aper_frames.specs.Paths.{path_view}
use Rattle.aper_decode.specs.declared.error.DecodeError.{DecodeError}
use Rattle.aper_decode.specs.declared.error.DecodeError.TheVariants as errors

-- The value that the octets give, with nothing after it; or their first wrong field, on the way to the value whose type gives it.
abbrev pub Decodes : Tree → List ℕ → Result Value DecodeError → Type 0
Decodes t octets (Ok v) = decoded t octets ≡ Ok (view v)
Decodes t octets (Err (errors.Refused bit reason path)) =
    decoded t octets ≡ Err (record { bit = bit; reason = reason; path = path_view path.items })
Decodes t octets (Err errors.Memory) = Unit {0}
