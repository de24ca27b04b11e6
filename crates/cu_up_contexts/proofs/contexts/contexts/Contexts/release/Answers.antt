use Rattle.std.proofs.Common.{sym}
use Rattle.cu_up_contexts.specs.contexts.Tables.{with_tables}
use Rattle.cu_up_contexts.proofs.contexts.Endings.{released_at_once, released_later}
use Rattle.cu_up_contexts.proofs.contexts.contexts.Contexts.release.Goals as goal

pub returns-then-is_final : goal.returns-then-is_final
returns-then-is_final c = λ codec r.
    released_at_once codec r c.args.ue c.args.out.now c.end.new.out (with_tables r c.end.new.self) c.end.result c.args.is_final c.if-is_final.true
    c.args.self.now (c.end.ensures codec r)

pub returns : goal.returns
returns c = λ codec r.
    released_later codec r c.args.ue c.args.out.now c.end_where_over.new.out (with_tables r c.end_where_over.new.self) c.end_where_over.result
    c.args.is_final c.if-is_final.false c.self.inside.next_teid c.self.inside.tunnels c.self.inside.contexts c.args.self.now
    c.in-Some.context.now c.release.new.self c.self.view_is (sym c.in-Some.ensures.value) (c.release.ensures codec) (c.end_where_over.ensures codec r)
