use Rattle.std.proofs.Common.{◌≡◌, ◌+◌, ◌∷◌, drop, get_or, refl, arith}
use Rattle.std.specs.Prelude.{Ok, Err}
use Rattle.gnb_types.specs.declared.names.Gnb.TheVariants.{A}
use Rattle.gnb_types.specs.declared.names.NodeId.TheVariants.{CuCp}
use Rattle.run_defs.specs.States.{tick_for}
use Rattle.run_defs.specs.Steps.{step}
use Rattle.run_defs.specs.UnitRuns.{unit_world}
use Rattle.run_links.specs.Networks.{state_of}
use Rattle.world_steps.proofs.control_messages.NodeTurns.{first_of, none_of, each_none, each_one, each_stops}
use Rattle.world_steps.proofs.control_messages.turns.tick_each.Goals as goal

pub loop-node-preserved : goal.loop-node-preserved
loop-node-preserved g c =
    let world = unit_world g.C.MessageCodec.codec g.U.Units.answer in
    let records = g.U.Units.records in
    let l = c.loop-node in
    let node = get_or c.args.nodes.now l.node-index (CuCp A) in
    let s = state_of (records l.run_state.units) l.run_state.core l.run_state.network in
    let t = state_of (records c.step.new.self.units) c.step.new.self.core c.step.new.self.network in
    let one : drop l.node-index c.args.nodes.now ≡ node ∷ drop (l.node-index + 1) c.args.nodes.now =
    first_of c.args.nodes.now l.node-index (omega arith) in
    record {
      ready = c.in-Ok.ensures.ready;
      rest = λ lines u result h.
          l.invariant.rest lines u result
          (each_one world (λ n. step world n (tick_for)) (drop l.node-index c.args.nodes.now) (drop (l.node-index + 1) c.args.nodes.now) node s t u
          l.lines c.step.new.lines lines result one (c.in-Ok.ensures.gives (tick_for) refl) h);
    }

pub returns-in-Err-clause-gives : goal.returns-in-Err-clause-gives
returns-in-Err-clause-gives g c =
    let world = unit_world g.C.MessageCodec.codec g.U.Units.answer in
    let records = g.U.Units.records in
    let l = c.loop-node in
    let node = get_or c.args.nodes.now l.node-index (CuCp A) in
    let s = state_of (records l.run_state.units) l.run_state.core l.run_state.network in
    let t = state_of (records c.step.new.self.units) c.step.new.self.core c.step.new.self.network in
    let one : drop l.node-index c.args.nodes.now ≡ node ∷ drop (l.node-index + 1) c.args.nodes.now =
    first_of c.args.nodes.now l.node-index (omega arith) in
    l.invariant.rest c.step.new.lines t (Err c.in-Err.cause)
    (each_stops world (λ n. step world n (tick_for)) (drop l.node-index c.args.nodes.now) (drop (l.node-index + 1) c.args.nodes.now) node s t
    l.lines c.step.new.lines c.in-Err.cause one (c.in-Err.ensures.gives (tick_for) refl))

pub returns-clause-gives : goal.returns-clause-gives
returns-clause-gives g c =
    let world = unit_world g.C.MessageCodec.codec g.U.Units.answer in
    let l = c.loop-node in
    let s = state_of (g.U.Units.records l.run_state.units) l.run_state.core l.run_state.network in
    l.invariant.rest l.lines s (Ok tt)
    (each_none world (λ n. step world n (tick_for)) (drop l.node-index c.args.nodes.now) s l.lines
    (none_of c.args.nodes.now l.node-index (omega arith)))
