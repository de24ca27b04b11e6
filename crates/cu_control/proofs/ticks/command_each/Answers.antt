use Rattle.std.proofs.Common.{rules}
use Rattle.cu_control.proofs.TickSteps.{command_goes}
use Rattle.cu_control.proofs.ticks.command_each.Goals as goal

pub loop-ue-preserved : goal.loop-ue-preserved
loop-ue-preserved g c =
    command_goes g.C.MessageCodec.codec c.loop-ue.outputs c.commanded.new.outputs c.loop-ue.ue-index c.loop-ue.record c.commanded.new.record _ c.args.ues.now _
    (search rules) c.loop-ue.invariant c.in_ok-commanded.ensures
