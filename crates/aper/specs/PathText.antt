-- Ways to values as text.
use Rattle.std.specs.Prelude.{ℕ, zero, suc, List, [], ◌∷◌, ◌++◌, reverse, codes}
use Rattle.std.specs.Fmt.{decimal}
use Rattle.aper_defs.specs.Fields.{Step, Path, component, member, element, outcome}

abbrev pub outcome_text : ℕ → List ℕ
outcome_text zero = codes "initiatingMessage"
outcome_text (suc zero) = codes "successfulOutcome"
outcome_text (suc (suc index)) = codes "unsuccessfulOutcome"

abbrev pub step_text : Step → List ℕ
step_text (component name) = name
step_text (member index) = codes "[" ++ decimal index ++ codes "]"
step_text (element id) = codes "#" ++ decimal id
step_text (outcome index) = outcome_text index

-- these steps after others, each after a dot
abbrev pub steps_after : List ℕ → List Step → List ℕ
steps_after text [] = text
steps_after text (step ∷ steps) = steps_after (text ++ codes "." ++ step_text step) steps

-- steps from the whole value on, which itself is `-`
abbrev pub steps_text : List Step → List ℕ
steps_text [] = codes "-"
steps_text (step ∷ steps) = steps_after (step_text step) steps

-- The last step of a way comes first.
abbrev pub path_text : Path → List ℕ
path_text path = steps_text (reverse path)
