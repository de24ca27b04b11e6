-- Internal: an error with its way as text.
use Rattle.std.specs.Prelude.{◌≡◌}
use Rattle.aper_frames.specs.Paths.{path_view}
use Rattle.aper_decode.specs.declared.error.DecodeError as reading
use Rattle.aper_decode.specs.declared.error.DecodeError.TheVariants as undecoded
use Rattle.aper.specs.declared.error.DecodeError.{DecodeError}
use Rattle.aper.specs.declared.error.DecodeError.TheVariants.{Refused, Memory}
use Rattle.aper.specs.PathText.{path_text}

-- the same place and reason, and the text of the way; or memory ran out
abbrev pub IsPrinted : reading.DecodeError → DecodeError → Type 0
IsPrinted (undecoded.Refused bit reason path) (Refused place why text) =
    (place ≡ bit) × (why ≡ reason) × (text ≡ path_text (path_view path.items))
IsPrinted undecoded.Memory (Refused place why text) = ⊥
IsPrinted error Memory = Unit {0}
