use Rattle.std.proofs.Common.{ℕ, ◌+◌, ◌-◌, [], Bool, subst, arith}
use Rattle.std.specs.Prelude.{Ok, Err}
use Rattle.gnb_types.specs.Orders.{tunnel_cmp}
use Rattle.tables.specs.Tables.{at}
use Rattle.run_defs.specs.Settling.{get_items, get_times}
use Rattle.run_defs.specs.UnitRuns.{unit_world}
use Rattle.run_links.specs.Networks.{state_of}
use Rattle.world_steps.specs.Gives.{EventGives}
use Rattle.world_steps.proofs.Following.{nothing_more}
use Rattle.world.specs.turns.Turns.{PartGives}
use Rattle.world.proofs.turns.Turned.{counted, none_left}
use Rattle.world.proofs.turns.tunnels.get_times.Goals as goal

pub loop-preserved : goal.loop-preserved
loop-preserved g c =
    let world = unit_world g.C.MessageCodec.codec g.U.Units.answer in
    let records = g.U.Units.records in
    let s = state_of (records c.loop.run_state.units) c.loop.run_state.core c.loop.run_state.network in
    let t = state_of (records c.get_next.new.run_state.units) c.get_next.new.run_state.core c.get_next.new.run_state.network in
    let more = get_times world c.args.end (c.args.times - (c.loop.counter + 1)) in
    let gives =
    subst (λ (b : Bool). PartGives c.loop.lines (get_items world c.args.end more s (at tunnel_cmp [] s.tunnels c.args.end)) more c.get_next.new.lines t
    (Ok b)) c.in-Ok-true.field-0-test (c.in-Ok-true.ensures.gives more) in
    record {
      ready = c.in-Ok-true.ensures.ready;
      rest = λ u lines result k.
          c.loop.invariant.rest u lines result
          (counted (λ (n : ℕ). EventGives c.loop.lines (get_times world c.args.end n s) lines u result) c.args.times c.loop.counter (omega arith)
          (gives u lines result k));
    }

pub returns-in-Ok-false-clause-gives : goal.returns-in-Ok-false-clause-gives
returns-in-Ok-false-clause-gives g c =
    let world = unit_world g.C.MessageCodec.codec g.U.Units.answer in
    let records = g.U.Units.records in
    let s = state_of (records c.loop.run_state.units) c.loop.run_state.core c.loop.run_state.network in
    let t = state_of (records c.get_next.new.run_state.units) c.get_next.new.run_state.core c.get_next.new.run_state.network in
    let more = get_times world c.args.end (c.args.times - (c.loop.counter + 1)) in
    c.loop.invariant.rest t c.get_next.new.lines (Ok tt)
    (counted (λ (n : ℕ). EventGives c.loop.lines (get_times world c.args.end n s) c.get_next.new.lines t (Ok tt)) c.args.times c.loop.counter
    (omega arith)
    (subst (λ (b : Bool). PartGives c.loop.lines (get_items world c.args.end more s (at tunnel_cmp [] s.tunnels c.args.end)) more c.get_next.new.lines t
    (Ok b)) c.in-Ok-false.field-0-test (c.in-Ok-false.ensures.gives more)))

pub returns-in-Err-clause-gives : goal.returns-in-Err-clause-gives
returns-in-Err-clause-gives g c =
    let world = unit_world g.C.MessageCodec.codec g.U.Units.answer in
    let records = g.U.Units.records in
    let s = state_of (records c.loop.run_state.units) c.loop.run_state.core c.loop.run_state.network in
    let t = state_of (records c.get_next.new.run_state.units) c.get_next.new.run_state.core c.get_next.new.run_state.network in
    let more = get_times world c.args.end (c.args.times - (c.loop.counter + 1)) in
    c.loop.invariant.rest t c.get_next.new.lines (Err c.in-Err.cause)
    (counted (λ (n : ℕ). EventGives c.loop.lines (get_times world c.args.end n s) c.get_next.new.lines t (Err c.in-Err.cause)) c.args.times
    c.loop.counter (omega arith) (c.in-Err.ensures.gives more))

pub returns-clause-gives : goal.returns-clause-gives
returns-clause-gives g c =
    let world = unit_world g.C.MessageCodec.codec g.U.Units.answer in
    let s = state_of (g.U.Units.records c.loop.run_state.units) c.loop.run_state.core c.loop.run_state.network in
    c.loop.invariant.rest s c.loop.lines (Ok tt)
    (none_left (λ (n : ℕ). EventGives c.loop.lines (get_times world c.args.end n s) c.loop.lines s (Ok tt)) c.args.times c.loop.counter (omega arith)
    (nothing_more c.loop.lines s))
