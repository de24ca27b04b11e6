use Rattle.std.proofs.Common.{ap, ◌∙◌}
use Rattle.std.specs.Prelude.{option_copied}
use Rattle.transcript_defs.specs.declared.line.TextLine.TheVariants.{Printed}
use Rattle.transcript_check.proofs.IndexLemmas.{settles_event}
use Rattle.transcript_check.proofs.index.settle.Goals as goal

pub returns : goal.returns
returns c =
    settles_event (option_copied c.args.newest) c.in-Some.newest.now c.args.next.now c.in-Happens.event c.args.accepted.now c.accept.new.self c.is_refusal.result
    (ap option_copied c.in-Some.is) (c.in-Printed.is ∙ ap Printed c.in-Happens.is) c.is_refusal.ensures c.if-is_refusal.false c.in_ok-accept.ensures
