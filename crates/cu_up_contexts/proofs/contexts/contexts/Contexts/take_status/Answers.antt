use Rattle.std.proofs.Common.{refl, sym, ap, ◌∙◌}
use Rattle.gnb_types.specs.Orders.{ue_cmp}
use Rattle.tables.specs.Tables.{find}
use Rattle.unit_defs.specs.CuUp.{as_known, status_each}
use Rattle.unit_defs.specs.octet_defs.Codec.{octet_way}
use Rattle.cu_up_contexts.specs.contexts.Tables.{CuUpTables}
use Rattle.cu_up_contexts.specs.contexts.Rows.{known_at}
use Rattle.cu_up_contexts.proofs.contexts.Steps.{order_step}
use Rattle.cu_up_contexts.proofs.contexts.contexts.Contexts.take_status.Goals as goal

pub take_status-requires-clause-new : goal.take_status-requires-clause-new
take_status-requires-clause-new c =
    c.requires.new c.in-Some.context.now
    (ap (λ (t : CuUpTables). find ue_cmp t.contexts c.args.ue) (sym c.self.view_is) ∙ sym c.in-Some.ensures.value)

pub returns : goal.returns
returns c = λ codec r.
    let here = c.in-Some.context.now in
    let on = as_known (octet_way codec) here in
    order_step codec c.args.ue c.args.out.now c.take_status.new.out r (known_at codec c.args.ue c.args.statuses.now)
    c.self.inside.next_teid c.self.inside.tunnels c.self.inside.contexts c.args.self.now here on c.take_status.new.self
    (status_each (octet_way codec) c.args.ue on c.args.statuses.now here.bearers) c.take_status.result
    c.self.view_is (sym c.in-Some.ensures.value) refl (c.take_status.ensures codec)
