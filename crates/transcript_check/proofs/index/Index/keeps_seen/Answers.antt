use Rattle.std.proofs.Common.{◌↔◌, IsTrue, Bool, List, ap, sym, subst, ◌∙◌}
use Rattle.std.proofs.lemmas.Result.{IfOk-weaker}
use Rattle.scenario_text.specs.declared.event.Event.{Event}
use Rattle.scenario_text.specs.declared.line.OutLine.TheVariants as lines
use Rattle.transcript_defs.specs.declared.line.TextLine.{TextLine}
use Rattle.transcript_defs.specs.declared.line.TextLine.TheVariants.{Printed}
use Rattle.transcript_defs.specs.Past.{accepted}
use Rattle.transcript_defs.specs.Rules.{CarriesOffered, WasSeen}
use Rattle.transcript_check.specs.inside.Accepted.{AreAccepted}
use Rattle.transcript_check.specs.inside.Index.{IsIndex}
use Rattle.transcript_check.proofs.index.Index.keeps_seen.Goals as goal

pub returns-in-Put : goal.returns-in-Put
returns-in-Put c =
    IfOk-weaker c.carries_offered.result
    (λ (carries : Bool). (happened : List Event) → AreAccepted happened c.args.self.now.accepted → IsTrue carries ↔ CarriesOffered happened c.in-Put.link c.in-Put.item)
    (λ (keeps : Bool). (past : List TextLine) → IsIndex past (accepted c.args.line.now past) c.args.self.now → IsTrue keeps ↔ WasSeen past c.args.line.now)
    (λ carries holds past is.
    subst (λ (line : TextLine). IsIndex past (accepted line past) c.args.self.now → IsTrue carries ↔ WasSeen past line)
    (sym (c.in-Printed.is ∙ ap Printed c.in-Put.is))
    (λ at. holds (accepted (Printed (lines.Put c.in-Put.link c.in-Put.item)) past) at.accepts) is)
    c.carries_offered.ensures
