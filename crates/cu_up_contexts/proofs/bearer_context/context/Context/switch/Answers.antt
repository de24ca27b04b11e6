use Rattle.std.proofs.Common.{subst}
use Rattle.unit_defs.specs.CuUpRecords.{CuUpContext}
use Rattle.unit_defs.specs.CuUp.{as_switched}
use Rattle.unit_defs.specs.octet_defs.Codec.{octet_way}
use Rattle.unit_messages.specs.steps.Steps.{IsStep}
use Rattle.cu_up_contexts.specs.bearer_context.Orders.{context_after, switched_each}
use Rattle.cu_up_contexts.proofs.bearer_context.context.Context.switch.Goals as goal

pub returns : goal.returns
returns c = λ codec.
    subst
    (λ (x : CuUpContext). IsStep (context_after codec c.args.out.now (as_switched (octet_way codec) x) (switched_each codec c.args.ue c.args.du c.args.downlinks.now (as_switched (octet_way codec) x)))
    c.carry_out.new.out c.carry_out.new.self c.carry_out.result)
    c.self.view_is (c.carry_out.ensures codec)
