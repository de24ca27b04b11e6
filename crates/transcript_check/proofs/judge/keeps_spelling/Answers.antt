use Rattle.std.proofs.Common.{◌↔◌, IsTrue, List, ℕ, ap, sym, subst, ◌∙◌}
use Rattle.std.specs.Prelude.{IfOk}
use Rattle.transcript_defs.specs.declared.line.TextLine.{TextLine}
use Rattle.transcript_defs.specs.declared.line.TextLine.TheVariants.{Printed}
use Rattle.transcript_defs.specs.Rules.{IsSpelled}
use Rattle.transcript_check.specs.Steps.{IsSpelling}
use Rattle.transcript_check.proofs.judge.keeps_spelling.Goals as goal

pub returns-in-PutMessage : goal.returns-in-PutMessage
returns-in-PutMessage g c =
    subst (λ (line : TextLine). IfOk c.is_spelling.result (λ keeps. IsTrue keeps ↔ IsSpelled (g.S.Spells.spelling c.args.spells.now) line))
    (sym (c.in-Printed.is ∙ ap Printed c.in-PutMessage.is))
    (subst (λ (octets : List ℕ). IfOk c.is_spelling.result (λ keeps. IsTrue keeps ↔ IsSpelling (g.S.Spells.spelling c.args.spells.now) octets))
    c.as_slice.ensures c.is_spelling.ensures)
