-- Internal: what becomes of a line.
use Rattle.std.specs.Prelude.{◌≡◌, List, ◌∷◌, Some, None, reverse}
use Rattle.transcript_defs.specs.declared.line.TextLine.{TextLine}
use Rattle.transcript_defs.specs.Rules.{Spelling}
use Rattle.transcript_check.specs.declared.past.Judged.{Judged}
use Rattle.transcript_check.specs.declared.past.Judged.TheVariants.{Taken, Broken}
use Rattle.transcript_check.specs.inside.Judge.{FirstBroken}

abbrev pub IsJudged : Spelling → List TextLine → TextLine → Judged → Type 0
IsJudged encode past line (Taken after) = FirstBroken encode past line None × (after ≡ line ∷ past)
IsJudged encode past line (Broken lines rule) = FirstBroken encode past line (Some rule) × (reverse lines ≡ past)
