use Rattle.std.proofs.Common.{◌≡◌, None, sym, subst}
use Rattle.std.specs.Prelude.{Result, Ok, Err}
use Rattle.std.proofs.lemmas.List.{append-nil}
use Rattle.gnb_types.specs.declared.inputs.Input.{Input}
use Rattle.run_defs.specs.States.{goes_on}
use Rattle.run_defs.specs.Steps.{does}
use Rattle.run_defs.specs.UnitRuns.{input_of, stepped_by, unit_world}
use Rattle.run_links.specs.Networks.{OctetState, state_of}
use Rattle.world_steps.specs.declared.cause.Cause.{Cause}
use Rattle.world_steps.specs.declared.asked.Asked.{Asked}
use Rattle.world_steps.specs.declared.asked.Asked.TheVariants as kinds
use Rattle.world_steps.specs.declared.asked.Moved.{Moved}
use Rattle.world_steps.specs.declared.asked.Moved.TheVariants as moves
use Rattle.world_steps.specs.Asks.{ComesOf}
use Rattle.world_steps.specs.Moves.{StepOutcome}
use Rattle.world_steps.proofs.Does.{does_step, does_hold, does_refuse, does_fail}
use Rattle.world_steps.proofs.run_state.RunState.try_step.Goals as goal

pub returns-in-Err-clause-gives : goal.returns-in-Err-clause-gives
returns-in-Err-clause-gives g c given is =
    let codec = g.C.MessageCodec.codec in
    let answer = g.U.Units.answer in
    let world = unit_world codec answer in
    let records = g.U.Units.records in
    let s = state_of (records c.args.self.now.units) c.args.self.now.core c.args.self.now.network in
    let after = records c.ask.new.self.units in
    let came : ComesOf (record { world = world; state = s; node = c.args.node; stepped = stepped_by (answer s.units c.args.node (input_of given)) }) after
    (Err c.in-Err.cause) =
    subst (λ (i : Input). ComesOf (record { world = world; state = s; node = c.args.node; stepped = stepped_by (answer s.units c.args.node i) })
    after (Err c.in-Err.cause)) (sym is) (c.in-Err.ensures.came) in
    does_fail codec answer s c.args.node given None goes_on after (state_of after c.ask.new.self.core c.ask.new.self.network) c.args.lines.now
    c.in-Err.cause came

pub returns-in-Does-clause-gives : goal.returns-in-Does-clause-gives
returns-in-Does-clause-gives g c given is =
    let codec = g.C.MessageCodec.codec in
    let answer = g.U.Units.answer in
    let world = unit_world codec answer in
    let records = g.U.Units.records in
    let s = state_of (records c.args.self.now.units) c.args.self.now.core c.args.self.now.network in
    let after = records c.ask.new.self.units in
    let came : ComesOf (record { world = world; state = s; node = c.args.node; stepped = stepped_by (answer s.units c.args.node (input_of given)) }) after
    (Ok (kinds.Does c.in-Does.outputs)) =
    subst (λ (i : Input). ComesOf (record { world = world; state = s; node = c.args.node; stepped = stepped_by (answer s.units c.args.node i) })
    after (Ok (kinds.Does c.in-Does.outputs))) (sym is) (subst (λ (a : Asked). ComesOf (record { world = world; state = s; node = c.args.node; stepped = stepped_by (answer s.units c.args.node c.args.input) })
    after (Ok a)) c.in-Does.is c.in-Ok.ensures.came) in
    let same : record s { units = after } ≡ state_of after c.ask.new.self.core c.ask.new.self.network = cc (c.ask.ensures.core, c.ask.ensures.network) in
    let t = state_of after c.ask.new.self.core c.ask.new.self.network in
    let u = state_of (records c.finish.new.self.units) c.finish.new.self.core c.finish.new.self.network in
    subst (λ (r : Result Moved Cause). StepOutcome (does world c.args.node given None goes_on s) (record { state = s; lines = c.args.lines.now })
    (record { state = u; lines = c.finish.new.lines }) r) (sym c.moved_by.ensures)
    (does_step codec answer s c.args.node given None goes_on c.in-Does.outputs after t u c.args.lines.now c.args.lines.now c.finish.new.lines
    c.finish.result came (sym (append-nil c.args.lines.now), same) c.finish.ensures.gives)

pub returns-in-Holds-clause-gives : goal.returns-in-Holds-clause-gives
returns-in-Holds-clause-gives g c given is =
    let codec = g.C.MessageCodec.codec in
    let answer = g.U.Units.answer in
    let world = unit_world codec answer in
    let records = g.U.Units.records in
    let s = state_of (records c.args.self.now.units) c.args.self.now.core c.args.self.now.network in
    let after = records c.ask.new.self.units in
    let came : ComesOf (record { world = world; state = s; node = c.args.node; stepped = stepped_by (answer s.units c.args.node (input_of given)) }) after
    (Ok (kinds.Holds c.in-Holds.reason)) =
    subst (λ (i : Input). ComesOf (record { world = world; state = s; node = c.args.node; stepped = stepped_by (answer s.units c.args.node i) })
    after (Ok (kinds.Holds c.in-Holds.reason))) (sym is) (subst (λ (a : Asked). ComesOf (record { world = world; state = s; node = c.args.node; stepped = stepped_by (answer s.units c.args.node c.args.input) })
    after (Ok a)) c.in-Holds.is c.in-Ok.ensures.came) in
    let same : record s { units = after } ≡ state_of after c.ask.new.self.core c.ask.new.self.network = cc (c.ask.ensures.core, c.ask.ensures.network) in
    subst (λ (x : OctetState). StepOutcome (does world c.args.node given None goes_on s) (record { state = s; lines = c.args.lines.now })
    (record { state = x; lines = c.args.lines.now }) (Ok (moves.Holds c.in-Holds.reason))) same
    (does_hold codec answer s c.args.node given None goes_on after c.in-Holds.reason c.args.lines.now came)

pub returns-in-Refuses-clause-gives : goal.returns-in-Refuses-clause-gives
returns-in-Refuses-clause-gives g c given is =
    let codec = g.C.MessageCodec.codec in
    let answer = g.U.Units.answer in
    let world = unit_world codec answer in
    let records = g.U.Units.records in
    let s = state_of (records c.args.self.now.units) c.args.self.now.core c.args.self.now.network in
    let after = records c.ask.new.self.units in
    let came : ComesOf (record { world = world; state = s; node = c.args.node; stepped = stepped_by (answer s.units c.args.node (input_of given)) }) after
    (Ok (kinds.Refuses c.in-Refuses.reason)) =
    subst (λ (i : Input). ComesOf (record { world = world; state = s; node = c.args.node; stepped = stepped_by (answer s.units c.args.node i) })
    after (Ok (kinds.Refuses c.in-Refuses.reason))) (sym is) (subst (λ (a : Asked). ComesOf (record { world = world; state = s; node = c.args.node; stepped = stepped_by (answer s.units c.args.node c.args.input) })
    after (Ok a)) c.in-Refuses.is c.in-Ok.ensures.came) in
    let same : record s { units = after } ≡ state_of after c.ask.new.self.core c.ask.new.self.network = cc (c.ask.ensures.core, c.ask.ensures.network) in
    subst (λ (x : OctetState). StepOutcome (does world c.args.node given None goes_on s) (record { state = s; lines = c.args.lines.now })
    (record { state = x; lines = c.args.lines.now }) (Ok (moves.Refuses c.in-Refuses.reason))) same
    (does_refuse codec answer s c.args.node given None goes_on after c.in-Refuses.reason c.args.lines.now came)
