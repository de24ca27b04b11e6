use Rattle.std.proofs.Common.{◌==◌, ◌↔◌, IsTrue, List, ap, sym, subst, reverse, ◌∙◌}
use Rattle.std.specs.Prelude.{count_by}
use Rattle.transcript_defs.specs.Past.{events_of}
use Rattle.transcript_check.specs.inside.Judge.{shows_event}
use Rattle.transcript_defs.specs.declared.line.TextLine.{TextLine}
use Rattle.transcript_defs.specs.declared.line.TextLine.TheVariants.{Printed}
use Rattle.transcript_defs.specs.Rules.{CountsEvents}
use Rattle.transcript_check.proofs.FormLemmas.{events_counted}
use Rattle.transcript_check.proofs.ItemLemmas.{number_test}
use Rattle.transcript_check.proofs.forms.counts_events.Goals as goal

pub returns-in-End : goal.returns-in-End
returns-in-End c =
    subst (λ (line : TextLine). IsTrue (c.in-End.events == c.events_in.result) ↔ CountsEvents (reverse c.args.lines.now) line)
    (sym (c.in-Printed.is ∙ ap Printed c.in-End.is))
    (number_test c.in-End.events c.events_in.result (events_of (reverse c.args.lines.now))
    (c.events_in.ensures ∙ ap (λ (lines : List TextLine). count_by shows_event lines) c.as_slice.ensures ∙ events_counted c.args.lines.now))
