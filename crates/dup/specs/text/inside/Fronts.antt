-- Internal: the words of a line before its octets, with the blank after them.
use Rattle.std.specs.Prelude.{ℕ, List, ◌++◌, codes}
use Rattle.std.specs.Fmt.{decimal}
use Rattle.dup_defs.specs.declared.types.leg.Leg.{Leg}
use Rattle.dup.specs.text.Arguments.{leg_text}

abbrev pub pdu_words : List ℕ → Leg → ℕ → List ℕ
pdu_words word leg count = word ++ codes " L" ++ leg_text leg ++ codes " " ++ decimal count ++ codes " "

abbrev pub delivery_words : ℕ → List ℕ
delivery_words count = codes "deliver " ++ decimal count ++ codes " "
