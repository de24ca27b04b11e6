use Rattle.std.proofs.Common.{refl, sym, ap, ◌∙◌}
use Rattle.gnb_types.specs.Orders.{ue_cmp}
use Rattle.tables.specs.Tables.{find}
use Rattle.unit_defs.specs.CuUp.{as_frozen}
use Rattle.unit_defs.specs.octet_defs.Codec.{octet_way}
use Rattle.cu_up_contexts.specs.bearer_context.Orders.{frozen_each}
use Rattle.cu_up_contexts.specs.contexts.Tables.{CuUpTables}
use Rattle.cu_up_contexts.specs.contexts.Rows.{frozen_at}
use Rattle.cu_up_contexts.proofs.contexts.Steps.{order_step}
use Rattle.cu_up_contexts.proofs.contexts.contexts.Contexts.freeze.Goals as goal

pub freeze-requires : goal.freeze-requires
freeze-requires c =
    c.requires c.in-Some.context.now
    (ap (λ (t : CuUpTables). find ue_cmp t.contexts c.args.ue) (sym c.self.view_is) ∙ sym c.in-Some.ensures.value)

pub returns : goal.returns
returns c = λ codec r.
    let on = as_frozen (octet_way codec) c.in-Some.context.now in
    order_step codec c.args.ue c.args.out.now c.freeze.new.out r (frozen_at codec c.args.ue c.args.peer c.args.down.now c.args.up.now)
    c.self.inside.next_teid c.self.inside.tunnels c.self.inside.contexts c.args.self.now c.in-Some.context.now on c.freeze.new.self
    (frozen_each codec c.args.ue c.args.peer c.args.down.now c.args.up.now on) c.freeze.result
    c.self.view_is (sym c.in-Some.ensures.value) refl (c.freeze.ensures codec)
