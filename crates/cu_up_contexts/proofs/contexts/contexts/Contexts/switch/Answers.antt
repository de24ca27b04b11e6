use Rattle.std.proofs.Common.{refl, sym}
use Rattle.unit_defs.specs.CuUp.{as_switched}
use Rattle.unit_defs.specs.octet_defs.Codec.{octet_way}
use Rattle.cu_up_contexts.specs.bearer_context.Orders.{switched_each}
use Rattle.cu_up_contexts.specs.contexts.Rows.{switched_at}
use Rattle.cu_up_contexts.proofs.contexts.Steps.{order_step}
use Rattle.cu_up_contexts.proofs.contexts.contexts.Contexts.switch.Goals as goal

pub returns : goal.returns
returns c = λ codec r.
    let on = as_switched (octet_way codec) c.in-Some.context.now in
    order_step codec c.args.ue c.args.out.now c.switch.new.out r (switched_at codec c.args.ue c.args.du c.args.downlinks.now)
    c.self.inside.next_teid c.self.inside.tunnels c.self.inside.contexts c.args.self.now c.in-Some.context.now on c.switch.new.self
    (switched_each codec c.args.ue c.args.du c.args.downlinks.now on) c.switch.result
    c.self.view_is (sym c.in-Some.ensures.value) refl (c.switch.ensures codec)
