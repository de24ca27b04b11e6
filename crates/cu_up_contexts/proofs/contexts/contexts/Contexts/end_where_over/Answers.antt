use Rattle.std.proofs.Common.{sym, ◌∙◌}
use Rattle.cu_up_contexts.specs.contexts.Tables.{with_tables}
use Rattle.cu_up_contexts.proofs.contexts.Endings.{over_nowhere, not_over, over_now}
use Rattle.cu_up_contexts.proofs.contexts.contexts.Contexts.end_where_over.Goals as goal

pub returns-in_default : goal.returns-in_default
returns-in_default c = λ codec r. over_nowhere codec r c.args.ue c.args.out.now c.args.self.now (sym c.in_default.ensures)

pub returns-then-not-is_over : goal.returns-then-not-is_over
returns-then-not-is_over c = λ codec r.
    not_over codec r c.args.ue c.args.out.now c.args.self.now c.in-Some.context.now (sym c.in-Some.ensures) (sym c.is_over.ensures ∙ c.if-not-is_over.true)

pub returns : goal.returns
returns c = λ codec r.
    over_now codec r c.args.ue c.args.out.now c.args.self.now c.in-Some.context.now (sym c.in-Some.ensures) (sym c.is_over.ensures ∙ c.if-not-is_over.false)
    c.end.new.out (with_tables r c.end.new.self) c.end.result (c.end.ensures codec r)
