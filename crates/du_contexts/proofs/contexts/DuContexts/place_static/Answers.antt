use Rattle.std.proofs.Common.{rules, ◌∙◌}
use Rattle.du_contexts.specs.Tables.{with_tables}
use Rattle.du_contexts.proofs.PlaceSteps.{are_first, placed_step}
use Rattle.du_contexts.proofs.contexts.DuContexts.place_static.Goals as goal

pub set_up-requires : goal.set_up-requires
set_up-requires c =
    are_first c.args.uplink c.args.plan.bearers c.as_slice-slice.result.now (c.as_slice-slice.ensures ∙ c.in_ok-uplinks.ensures)

pub returns : goal.returns
returns c = λ codec r gnb_is.
    placed_step codec r c.args.self.now c.args.plan c.args.uplink c.args.gnb c.as_slice-slice.result.now c.new-outputs.result gnb_is
    (c.as_slice-slice.ensures ∙ c.in_ok-uplinks.ensures) c.requires (search rules)
    c.set_up.new.outputs (with_tables r c.set_up.new.self) c.set_up.result (search rules) (c.set_up.ensures codec r)
