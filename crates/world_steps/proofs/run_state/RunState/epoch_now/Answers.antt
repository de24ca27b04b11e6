use Rattle.std.proofs.Common.{◌∙◌, ℕ, Bool, if◌then◌else◌, Some, None, sym, ap}
use Rattle.unit_defs.specs.declared.UeState.{UeState}
use Rattle.run_defs.specs.Steps.{is_on_air}
use Rattle.run_defs.specs.UnitRuns.{unit_world}
use Rattle.run_links.specs.Networks.{state_of}
use Rattle.world_steps.proofs.OnAir.{epoch_is}
use Rattle.world_steps.proofs.run_state.RunState.epoch_now.Goals as goal

pub returns-then-is_on_air : goal.returns-then-is_on_air
returns-then-is_on_air g c =
    let world = unit_world g.C.MessageCodec.codec g.U.Units.answer in
    let u = c.in_ok-terminal.terminal.now.node in
    ap (λ (n : ℕ). Some n) c.epoch.ensures ∙ ap (λ (b : Bool). if b then Some u.epoch else None) (sym c.if-is_on_air.true)
    ∙ epoch_is world (state_of (g.U.Units.records c.args.self.now.units) c.args.self.now.core c.args.self.now.network) c.args.ue
    c.in_ok-plan.field-0.now u c.is_on_air.result c.in_ok-plan.ensures.plan c.in_ok-terminal.ensures
    (c.is_on_air.ensures world ∙ ap (λ (x : UeState). is_on_air world x) c.state.ensures)

pub returns-else-is_on_air : goal.returns-else-is_on_air
returns-else-is_on_air g c =
    let world = unit_world g.C.MessageCodec.codec g.U.Units.answer in
    let u = c.in_ok-terminal.terminal.now.node in
    ap (λ (b : Bool). if b then Some u.epoch else None) (sym c.if-is_on_air.false)
    ∙ epoch_is world (state_of (g.U.Units.records c.args.self.now.units) c.args.self.now.core c.args.self.now.network) c.args.ue
    c.in_ok-plan.field-0.now u c.is_on_air.result c.in_ok-plan.ensures.plan c.in_ok-terminal.ensures
    (c.is_on_air.ensures world ∙ ap (λ (x : UeState). is_on_air world x) c.state.ensures)
