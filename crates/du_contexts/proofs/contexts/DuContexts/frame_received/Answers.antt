use Rattle.std.proofs.Common.{Some, refl, sym, ap, ◌∙◌}
use Rattle.std.specs.Prelude.{option_copied}
use Rattle.unit_defs.specs.Du.{DuContext}
use Rattle.du_contexts.proofs.Steps.{frame_step}
use Rattle.du_contexts.proofs.contexts.DuContexts.frame_received.Goals as goal

pub returns : goal.returns
returns c = λ codec r.
    let context : DuContext = record { epoch = c.context.inside.epoch; sn = c.context.inside.sn; bearers = c.context.inside.bearers } in
    frame_step codec r c.args.key.ue c.args.key.bearer c.args.outputs.now c.report.new.outputs c.carry.new.outputs c.carry.result
    c.self.inside.next_teid c.self.inside.tunnels c.self.inside.contexts c.args.self.now context
    c.in-Some-get_mut.found.now c.took.new.self
    c.args.frame.now.poll c.args.frame.now.restart c.args.frame.now.number (option_copied c.args.frame.now.pdu) c.gap_after-gap.result
    c.self.view_is
    (sym c.in-Some.ensures.value ∙ ap Some (sym c.context.view_is))
    (sym c.in-Some-get_mut.ensures.value)
    c.took.ensures
    (c.gap_after-gap.ensures codec)
    (c.in_ok-report.ensures.ok codec)
    (c.carry.ensures codec context _ refl)
