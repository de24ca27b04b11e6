use Rattle.std.proofs.Common.{Bool, true, cond, ap}
use Rattle.gnb_types.specs.declared.reasons.DropReason.TheVariants.{Unexpected}
use Rattle.unit_defs.specs.Ways.{drops, nothing}
use Rattle.unit_messages.specs.steps.Steps.{step_after}
use Rattle.cu_up_bearer.proofs.downlink.Sequels.{step_as}
use Rattle.cu_up_bearer.specs.bearers.Bearers.{kept}
use Rattle.cu_up_items.proofs.packets.taking.end_down.Goals as goal

pub returns-then-bearer-clause-step : goal.returns-then-bearer-clause-step
returns-then-bearer-clause-step c = λ codec.
    let b = kept c.args.bearer.now in
    step_as _ _ _ _ _
    (ap (λ (t : Bool). step_after c.args.out.now (cond t (drops Unexpected b) (nothing (record b { down_ended = true })))) c.if-bearer.true)
    (c.drop_item.ensures b)
