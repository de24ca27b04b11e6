use Rattle.std.proofs.Common.{◌↔◌, IsTrue, ap, sym, subst, ◌∙◌}
use Rattle.scenario_text.specs.declared.line.OutLine.TheVariants as lines
use Rattle.transcript_defs.specs.declared.line.TextLine.{TextLine}
use Rattle.transcript_defs.specs.declared.line.TextLine.TheVariants.{Printed}
use Rattle.transcript_defs.specs.Past.{accepted}
use Rattle.transcript_defs.specs.Rules.{ShowsCount}
use Rattle.transcript_check.specs.inside.Index.{IsIndex}
use Rattle.transcript_check.proofs.index.Index.keeps_count.Goals as goal

pub returns-in-Put : goal.returns-in-Put
returns-in-Put c = λ past is.
    subst (λ (line : TextLine). IsIndex past (accepted line past) c.args.self.now → IsTrue c.fits_count.result ↔ ShowsCount past line)
    (sym (c.in-Printed.is ∙ ap Printed c.in-Put.is))
    (λ at. c.fits_count.ensures (accepted (Printed (lines.Put c.in-Put.link c.in-Put.item)) past) at.accepts) is

pub returns-in-Got : goal.returns-in-Got
returns-in-Got c = λ past is.
    subst (λ (line : TextLine). IsIndex past (accepted line past) c.args.self.now → IsTrue c.fits_count-in-Got.result ↔ ShowsCount past line)
    (sym (c.in-Printed.is ∙ ap Printed c.in-Got.is))
    (λ at. c.fits_count-in-Got.ensures (accepted (Printed (lines.Got c.in-Got.link c.in-Got.item)) past) at.accepts) is
