-- What is said of the whole of octets.
use Rattle.std.specs.Prelude.{◌≡◌, ℕ, List}
use Rattle.aper_defs.specs.Trees.{Tree}
use Rattle.aper_defs.specs.Asking.{asks_whole}
use Rattle.aper_defs.specs.Reading.{at_first, run}
use Rattle.aper_defs.specs.feeding_defs.Feeding.{Stage, whole, cut, wrong, stage}
use Rattle.proof_aper.specs.pieces.Onto.{StillRefused}

abbrev pub SaysOf : Tree → List ℕ → Stage → Type 0
SaysOf t octets (whole v size) = stage t octets ≡ whole v size
SaysOf t octets (cut fault) = stage t octets ≡ cut fault
SaysOf t octets (wrong fault) = StillRefused (run (asks_whole t) (at_first octets)) fault
